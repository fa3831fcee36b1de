-- The laws of the exclusive or of byte strings.
use Rattle.std.proofs.Common.{◌≡◌, ℕ, ◌+◌, ◌<◌, ◌≤◌, List, [], ◌∷◌, ◌++◌, length, get_or, take, drop, set, sym, refl, ap, ◌∙◌, append_assoc, append-nil, arith, take_all, drop-set-lt}
use lib.Bits.{bit_xor, xor_assoc, xor_self, xor_zero_l}
use Rattle.std.proofs.lemmas.List.{take_more_set, drop_more, drop_all}
use Rattle.words.specs.Bytes.{xor_bytes}

-- one element more is done, and what is left gives the rest
pub xor_more : (a b : List ℕ) (i v : ℕ) → i < length a → i < length b → v ≡ bit_xor (get_or a i 0) (get_or b i 0)
    → take (i + 1) (set a i v) ++ xor_bytes (drop (i + 1) (set a i v)) (drop (i + 1) b) ≡ take i a ++ xor_bytes (drop i a) (drop i b)
xor_more a b i v la lb e =
    let lt : i < i + 1 = omega arith in
    rw (take_more_set, drop-set-lt, drop_more a i 0, drop_more b i 0, e) (append_assoc (take i a) _ _)

pub xor_done : (a b : List ℕ) (i : ℕ) → length a ≤ i → take i a ++ xor_bytes (drop i a) (drop i b) ≡ a
xor_done a b i h = rw (take_all, drop_all) (append-nil a)

-- y ⊕ (y ⊕ b) is b
pub xor_cancel : (y b : List ℕ) → length b ≤ length y → xor_bytes y (xor_bytes y b) ≡ b
xor_cancel [] [] h = refl
xor_cancel [] (b ∷ bs) h = absurd (omega arith)
xor_cancel (y ∷ ys) [] h = refl
xor_cancel (y ∷ ys) (b ∷ bs) h =
    let le : length bs ≤ length ys = omega arith in
    let one : bit_xor y (bit_xor y b) ≡ b = sym (xor_assoc y y b) ∙ ap (λ z. bit_xor z b) (xor_self y) ∙ xor_zero_l b in
    let rest = xor_cancel ys bs le in
    cc

pub length-xor : (n : ℕ) (xs ys : List ℕ) → length xs ≡ n → length ys ≡ n → length (xor_bytes xs ys) ≡ n
length-xor n [] ys lx ly = lx
length-xor n (x ∷ xs) [] lx ly = ly
length-xor n (x ∷ xs) (y ∷ ys) lx ly =
    let one : length (xor_bytes xs ys) ≡ length xs = length-xor (length xs) xs ys refl (omega arith) in
    omega arith
