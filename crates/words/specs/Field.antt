-- The field of 256 elements. A byte is a polynomial over the field of two, bit k the coefficient of x^k, and products
-- are taken modulo x^8 + x^4 + x^3 + x + 1, which as a number is 0x11b.
use Rattle.std.specs.Prelude.{◌≡◌, ℕ, zero, suc, ◌*◌, ◌/◌, ◌%◌, ◌<◌, cond, ◌==◌, bit_xor, nat_lt}

-- a times x
abbrev pub times_x : ℕ → ℕ
times_x a = cond (nat_lt (a * 2) 256) (a * 2) (bit_xor (a * 2) 0x11b)

-- a times the n lowest terms of b
abbrev pub times_low : ℕ → ℕ → ℕ → ℕ
times_low zero a b = 0
times_low (suc n) a b = bit_xor (cond (b % 2 == 1) a 0) (times_low n (times_x a) (b / 2))

abbrev pub times : ℕ → ℕ → ℕ
times a b = times_low 8 a b

-- b^2 · b^4 · b^8 and so on, n factors, each the square of the one before
abbrev pub squares : ℕ → ℕ → ℕ
squares zero b = 1
squares (suc n) b = times (times b b) (squares n (times b b))

-- the inverse of b is b^254, and 254 = 2 + 4 + 8 + .. + 128; that of 0 is taken to be 0
abbrev pub inverse : ℕ → ℕ
inverse b = squares 7 b

-- what makes it the inverse
abbrev pub Inverts : Type 0
Inverts = ((b : ℕ) → 0 < b → b < 256 → times b (inverse b) ≡ 1) × (inverse 0 ≡ 0)
