-- The linear map L of each diffusion, on numbers.
use Rattle.std.specs.Prelude.{ℕ, ◌-◌, ◌*◌, ◌/◌, ◌%◌, ◌^◌, bit_or, bit_xor}

-- x ≪ k at w bits, which drops what falls out, and x ≫ k
abbrev pub shift_left : ℕ → ℕ → ℕ → ℕ
shift_left w k x = (x * 2 ^ k) % 2 ^ w

abbrev pub shift_right : ℕ → ℕ → ℕ
shift_right k x = x / 2 ^ k

-- x rotated to the left by k of its w bits, 0 < k < w
abbrev pub rotate_left : ℕ → ℕ → ℕ → ℕ
rotate_left w k x = bit_or (shift_left w k x) (shift_right (w - k) x)

-- (x ≪ 1) ⊕ (x ≫ k) at w bits
abbrev pub linear : ℕ → ℕ → ℕ → ℕ
linear w k x = bit_xor (shift_left w 1 x) (shift_right k x)

-- wide D1, D2 and D3
abbrev pub wide_first : ℕ → ℕ
wide_first x = linear 128 3 x

abbrev pub wide_second : ℕ → ℕ
wide_second x = linear 32 3 x

abbrev pub wide_third : ℕ → ℕ
wide_third x = rotate_left 8 1 (bit_xor x (shift_left 8 1 x))

-- narrow D1, D2 and D3
abbrev pub narrow_first : ℕ → ℕ
narrow_first x = linear 64 15 x

abbrev pub narrow_second : ℕ → ℕ
narrow_second x = linear 16 1 x

abbrev pub narrow_third : ℕ → ℕ
narrow_third x = linear 8 3 x
