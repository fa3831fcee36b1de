-- The field and the S-box, computed at each of the 256 bytes.
use Rattle.std.proofs.Common.{◌≡◌, ℕ, ◌%◌, ◌<◌, min, refl, ◌∙◌, arith}
use Rattle.words.specs.Field.{times, inverse, Inverts}
use Rattle.words.specs.Sbox.{sbox_of}
use Rattle.words.proofs.Table.{agree}

pub inverts : Inverts
inverts = (λ b pos below. agree (λ n. times n (inverse n)) (λ n. min n 1) 256 refl b below ∙ omega arith, refl)

-- the S-box of a byte is a byte
pub sbox_byte : (b : ℕ) → b < 256 → sbox_of b < 256
unfolding sbox_of
sbox_byte b h =
    let e : sbox_of b % 256 ≡ sbox_of b = agree (λ n. sbox_of n % 256) sbox_of 256 refl b h in
    omega arith
