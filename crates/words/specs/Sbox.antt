-- The S-box of FIPS 197: the inverse in the field, then an affine map.
use Rattle.std.specs.Prelude.{ℕ, bit_xor}
use Rattle.words.specs.Field.{inverse}
use Rattle.words.specs.Linear.{rotate_left}

-- a byte ⊕ its left rotations by 1, 2, 3 and 4, ⊕ 0x63
abbrev pub affine : ℕ → ℕ
affine c = bit_xor c (bit_xor (rotate_left 8 1 c) (bit_xor (rotate_left 8 2 c) (bit_xor (rotate_left 8 3 c) (bit_xor (rotate_left 8 4 c) 0x63))))

unfoldable pub sbox_of : ℕ → ℕ
sbox_of b = affine (inverse b)
