-- Byte strings and the numbers that they stand for.
use Rattle.std.proofs.Common.{◌≡◌, ℕ, zero, suc, ◌+◌, ◌*◌, ◌/◌, ◌%◌, ◌^◌, ◌<◌, List, [], ◌∷◌, ◌++◌, length, take, drop, sym, refl, ap, ◌∙◌, mul_assoc, mul_comm, zero-add, pow-suc, arith}
use lib.Bits.{bit_xor, xor_mod, xor_shr}
use Rattle.std.proofs.Math.Nat.{add-mul-div_right, div-div-eq-div-mul, div-eq_of_lt, mod-add-div, pow-succ'}
use Rattle.std.proofs.lemmas.Nat.{div_below}
use Rattle.words.specs.Bytes.{low_bytes, value, xor_bytes, Bytes}

pub length-low_bytes : (n x : ℕ) → length (low_bytes n x) ≡ n
unfolding low_bytes
length-low_bytes zero x = refl
length-low_bytes (suc n) x = ap suc (length-low_bytes n (x / 256))

pub Bytes-low_bytes : (n x : ℕ) → Bytes (low_bytes n x)
unfolding low_bytes
Bytes-low_bytes zero x = tt
Bytes-low_bytes (suc n) x = (omega arith, Bytes-low_bytes n (x / 256))

pub Bytes-append : (a b : List ℕ) → Bytes a → Bytes b → Bytes (a ++ b)
Bytes-append [] b p q = q
Bytes-append (x ∷ a) b p q = (p.0, Bytes-append a b p.1 q)

pub Bytes-take : (n : ℕ) (s : List ℕ) → Bytes s → Bytes (take n s)
Bytes-take zero s p = tt
Bytes-take (suc n) [] p = tt
Bytes-take (suc n) (b ∷ s) p = (p.0, Bytes-take n s p.1)

pub Bytes-drop : (n : ℕ) (s : List ℕ) → Bytes s → Bytes (drop n s)
Bytes-drop zero s p = p
Bytes-drop (suc n) [] p = tt
Bytes-drop (suc n) (b ∷ s) p = Bytes-drop n s p.1

-- four strings put together, each replaced by an equal one
pub all_four : {a b c d p q r s : List ℕ} → a ≡ p → b ≡ q → c ≡ r → d ≡ s → a ++ (b ++ (c ++ d)) ≡ p ++ (q ++ (r ++ s))
all_four ea eb ec ed = cc

pub value-low_bytes : (n x : ℕ) → x < 256 ^ n → value (low_bytes n x) ≡ x
unfolding value low_bytes
value-low_bytes zero x h = omega arith
value-low_bytes (suc n) x h =
    let lt : x / 256 < 256 ^ n = div_below x 256 (256 ^ n) (omega arith) (rw pow-suc at h) in
    let e : value (low_bytes n (x / 256)) ≡ x / 256 = value-low_bytes n (x / 256) lt in
    omega arith

pub low_bytes-value : (s : List ℕ) → Bytes s → low_bytes (length s) (value s) ≡ s
unfolding value low_bytes
low_bytes-value [] p = refl
low_bytes-value (b ∷ s) p =
    let lt : b < 256 = p.0 in
    let low : (value s * 256 + b) % 256 ≡ b = omega arith in
    let high : (value s * 256 + b) / 256 ≡ value s = omega arith in
    let rest = low_bytes-value s p.1 in
    let moved : low_bytes (length s) ((value s * 256 + b) / 256) ≡ s = ap (low_bytes (length s)) high ∙ rest in
    cc

-- a number that has the value of n bytes has those bytes
pub named : (n r : ℕ) (s : List ℕ) → length s ≡ n → Bytes s → r ≡ value s → low_bytes n r ≡ s
named n r s l p e = rw (e, ← l) (low_bytes-value s p)

pub value-append : (a b : List ℕ) → value (a ++ b) ≡ value b * 256 ^ length a + value a
unfolding value
value-append [] b = omega arith
value-append (x ∷ a) b = rw (value-append a b, pow-suc 256 (length a), ← mul_assoc) (omega arith)

pub low_xor : (n x y : ℕ) → low_bytes n (bit_xor x y) ≡ xor_bytes (low_bytes n x) (low_bytes n y)
unfolding low_bytes
low_xor zero x y = refl
low_xor (suc n) x y =
    let low : bit_xor x y % 256 ≡ bit_xor (x % 256) (y % 256) = xor_mod x y 8 in
    let high : bit_xor x y / 256 ≡ bit_xor (x / 256) (y / 256) = xor_shr x y 8 in
    let rest : low_bytes n (bit_xor x y / 256) ≡ xor_bytes (low_bytes n (x / 256)) (low_bytes n (y / 256)) = ap (low_bytes n) high ∙ low_xor n (x / 256) (y / 256) in
    cc

pub xor_bytes-append : (a b c d : List ℕ) → length a ≡ length c → xor_bytes (a ++ b) (c ++ d) ≡ xor_bytes a c ++ xor_bytes b d
xor_bytes-append [] b [] d e = refl
xor_bytes-append [] b (z ∷ c) d e = absurd (omega arith)
xor_bytes-append (x ∷ a) b [] d e = absurd (omega arith)
xor_bytes-append (x ∷ a) b (z ∷ c) d e = ap (λ l. bit_xor x z ∷ l) (xor_bytes-append a b c d (omega arith))

-- what stands above the n low bytes does not change them
pub low_bytes-above : (n x y : ℕ) → low_bytes n (x + y * 256 ^ n) ≡ low_bytes n x
unfolding low_bytes
low_bytes-above zero x y = refl
low_bytes-above (suc n) x y =
    let q : x + y * 256 ^ suc n ≡ x + (y * 256 ^ n) * 256 = rw (pow-suc 256 n, ← mul_assoc) in
    let first : (x + y * 256 ^ suc n) % 256 ≡ x % 256 = omega arith in
    let above : (x + y * 256 ^ suc n) / 256 ≡ x / 256 + y * 256 ^ n = omega arith in
    let rest : low_bytes n ((x + y * 256 ^ suc n) / 256) ≡ low_bytes n (x / 256) = ap (low_bytes n) above ∙ low_bytes-above n (x / 256) y in
    cc

pub low_bytes-mod : (n x : ℕ) → low_bytes n (x % 256 ^ n) ≡ low_bytes n x
low_bytes-mod n x =
    let whole : x % 256 ^ n + x / 256 ^ n * 256 ^ n ≡ x = ap (λ m. x % 256 ^ n + m) (mul_comm (x / 256 ^ n) (256 ^ n)) ∙ mod-add-div x (256 ^ n) in
    sym (low_bytes-above n (x % 256 ^ n) (x / 256 ^ n)) ∙ ap (low_bytes n) whole

-- the low bytes in two parts
pub low_bytes-add : (j k x : ℕ) → low_bytes (j + k) x ≡ low_bytes j x ++ low_bytes k (x / 256 ^ j)
unfolding low_bytes
low_bytes-add zero k x =
    let e : zero + k ≡ k = omega arith in
    let same : x / 256 ^ 0 ≡ x = omega arith in
    cc
low_bytes-add (suc j) k x =
    let e : suc j + k ≡ suc (j + k) = omega arith in
    let more : x / 256 / 256 ^ j ≡ x / 256 ^ suc j = div-div-eq-div-mul x 256 (256 ^ j) ∙ ap (λ (n : ℕ). x / n) (sym (pow-succ' 256 j)) in
    let rest = low_bytes-add j k (x / 256) in
    cc

-- a number made of two parts
pub low_bytes-parts : (j k x y : ℕ) → x < 256 ^ j → low_bytes (j + k) (x + y * 256 ^ j) ≡ low_bytes j x ++ low_bytes k y
low_bytes-parts j k x y h =
    let some : 0 < 256 ^ j = omega arith in
    let none : x / 256 ^ j ≡ 0 = div-eq_of_lt h in
    let high : (x + y * 256 ^ j) / 256 ^ j ≡ y = add-mul-div_right x y some ∙ ap (λ m. m + y) none ∙ zero-add y in
    low_bytes-add j k (x + y * 256 ^ j) ∙ rw (low_bytes-above j x y, high)
