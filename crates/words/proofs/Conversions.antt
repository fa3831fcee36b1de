-- What the conversions of the code between a word and its bytes give, at each width.
use Rattle.std.proofs.Common.{◌≡◌, ℕ, zero, suc, ◌+◌, ◌*◌, ◌/◌, ◌%◌, ◌^◌, ◌<◌, List, [], ◌∷◌, length, get_or, take, sym, refl, ap, ◌∙◌, arith, pow-suc, take_all}
use native.Mathlib.Nat.{div-div-eq-div-mul}
use Rattle.std.specs.Int.{byte_worth, bytes_low_first, sum_through}
use Rattle.std.proofs.lemmas.List.{take_more, length-take-le}
use Rattle.words.specs.Bytes.{low_bytes, value, Bytes}
use Rattle.words.proofs.Bytes.{named, value-append}

-- `to_le_bytes`, and the bytes from byte i on
to_low_from : (i k x : ℕ) → bytes_low_first i k x ≡ low_bytes k (x / 256 ^ i)
unfolding low_bytes
to_low_from i zero x = refl
to_low_from zero (suc k) x =
    let e : x / 1 ≡ x = omega arith in
    let rest : bytes_low_first 1 k x ≡ low_bytes k (x / 256) = to_low_from 1 k x in
    cc
to_low_from (suc i) (suc k) x =
    let e : x / 256 ^ suc i / 256 ≡ x / 256 ^ suc (suc i) = div-div-eq-div-mul x (256 ^ suc i) 256 ∙ ap (λ (n : ℕ). x / n) (sym (pow-suc 256 (suc i))) in
    ap (λ l. (x / 256 ^ suc i % 256) ∷ l) (to_low_from (suc (suc i)) k x ∙ ap (low_bytes k) (sym e))

pub to_low : (k x : ℕ) → bytes_low_first 0 k x ≡ low_bytes k x
to_low k x = let e : x / 256 ^ 0 ≡ x = omega arith in to_low_from 0 k x ∙ ap (low_bytes k) e

-- `from_le_bytes`
pub one_value : (x : ℕ) → value (x ∷ []) ≡ x
unfolding value
one_value x = omega arith

of_low_sum : (n : ℕ) (s : List ℕ) → n < length s → sum_through (λ i. byte_worth i (get_or s i 0)) n ≡ value (take (n + 1) s)
of_low_sum zero [] h = absurd (omega arith)
of_low_sum zero (b ∷ s) h = sym (one_value b)
of_low_sum (suc n) s h =
    let first : sum_through (λ i. byte_worth i (get_or s i 0)) n ≡ value (take (n + 1) s) = of_low_sum n s (omega arith) in
    let long : length (take (suc n) s) ≡ suc n = length-take-le (suc n) s (omega arith) in
    let g = get_or s (suc n) 0 in
    let whole : value (take (suc n + 1) s) ≡ g * 256 ^ suc n + value (take (suc n) s) =
    ap value (take_more s (suc n) 0 h) ∙ value-append (take (suc n) s) (g ∷ []) ∙ rw (one_value g, long) in
    let next : n + 1 ≡ suc n = omega arith in
    let same : value (take (n + 1) s) ≡ value (take (suc n) s) = ap (λ m. value (take m s)) next in
    omega arith

pub of_low : (n x : ℕ) (s : List ℕ) → length s ≡ suc n → Bytes s → x ≡ sum_through (λ i. byte_worth i (get_or s i 0)) n → low_bytes (suc n) x ≡ s
of_low n x s l b e =
    named (suc n) x s l b (e ∙ of_low_sum n s (omega arith) ∙ ap value (take_all (n + 1) s (omega arith)))

-- what `get_or` tells of a string's elements
pub bytes_of : (s : List ℕ) → ((i : ℕ) → get_or s i 0 < 256) → Bytes s
bytes_of [] h = tt
bytes_of (b ∷ s) h = (h 0, bytes_of s (λ i. h (suc i)))
