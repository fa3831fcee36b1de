-- The exchange: block length 16, mark 3; the two blocks change places.
use Rattle.std.specs.Prelude.{◌≡◌, ℕ, ◌≤◌, ◌⊎◌, refl}
use Rattle.std.proofs.Common.{inl, lit≤}
use Rattle.mixers.specs.Halves.{Halves, halves, Lawful}

abbrev pub exchanged : Halves → Halves
exchanged s = halves s.lower s.upper

abbrev pub exchange_mark : ℕ
exchange_mark = 3

-- It is a mixer. These proofs stand here since the code's ghost member cites them, which may cite only specs/.
pub exchanged_lawful : (n mark : ℕ) → (n ≡ 16) ⊎ (n ≡ 32) → 1 ≤ mark → mark ≤ 255 → Lawful n mark exchanged
exchanged_lawful n mark w lo hi = record {
  width = w;
  least = lo;
  most = hi;
  sized = λ s b. (b.1, b.0);
  bytes = λ s z b. (b.1, b.0);
}

pub exchange_lawful : Lawful 16 exchange_mark exchanged
exchange_lawful = exchanged_lawful 16 exchange_mark (inl refl) (lit≤ tt) (lit≤ tt)
