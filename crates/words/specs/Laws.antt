-- The laws of exclusive or.
use Rattle.std.specs.Prelude.{◌≡◌, bit_xor}
use Rattle.std.specs.Int.Bits.{xor_assoc, xor_zero_r, xor_self}
use Rattle.std.proofs.lemmas.Nat.{xor_comm}

pub record XorLaws {W : Type 0} (zero : W) (plus : W → W → W) : Type 0 where
  pub assoc : (x y z : W) → plus (plus x y) z ≡ plus x (plus y z)
  pub comm : (x y : W) → plus x y ≡ plus y x
  pub neutral : (x : W) → plus x zero ≡ x
  pub cancels : (x : W) → plus x x ≡ zero

-- They hold of numbers, bit by bit. The proof stands here since the code's ghost members cite it.
pub bits_laws : XorLaws 0 bit_xor
bits_laws = record { assoc = xor_assoc; comm = xor_comm; neutral = xor_zero_r; cancels = xor_self }
