-- What a state holds, and the laws of a mixer.
use Rattle.std.specs.Prelude.{◌≡◌, ℕ, ◌≤◌, ◌⊎◌, List, length}
use Rattle.words.specs.Bytes.{Bytes}

-- the two blocks of a state: x' is the upper one and x the lower
pub record Halves : Type 0 where
  pub upper : List ℕ
  pub lower : List ℕ

abbrev pub halves : List ℕ → List ℕ → Halves
halves u l = record { upper = u; lower = l }

-- both blocks have n elements
abbrev pub Sized : ℕ → Halves → Type 0
Sized n s = (length s.upper ≡ n) × (length s.lower ≡ n)

-- both blocks are of bytes
abbrev pub OfBytes : Halves → Type 0
OfBytes s = Bytes s.upper × Bytes s.lower

-- the block length n, the mark byte and the function on states are those of a mixer
pub record Lawful (n : ℕ) (mark : ℕ) (mixing : Halves → Halves) : Type 0 where
  pub width : (n ≡ 16) ⊎ (n ≡ 32)
  pub least : 1 ≤ mark
  pub most : mark ≤ 255
  pub sized : (s : Halves) → Sized n s → Sized n (mixing s)
  pub bytes : (s : Halves) → Sized n s → OfBytes s → OfBytes (mixing s)
