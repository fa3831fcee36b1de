-- The narrow mixer (block length 16, mark 1) and the wide one (32, mark 2): Artemia's permutations, on the lower block
-- followed by the upper.
use Rattle.std.specs.Prelude.{◌≡◌, ℕ, ◌+◌, ◌≤◌, ◌⊎◌, List, ◌++◌, take, drop, refl}
use Rattle.std.proofs.Common.{inl, inr, lit≤}
use Rattle.artemia.specs.Artemia.{permuted, narrow, wide}
use Rattle.artemia.proofs.Sizes.{Keeps, narrow_keeps, wide_keeps, length-halves, Bytes-halves}
use Rattle.mixers.specs.Halves.{Halves, halves, Lawful}

-- a function on byte strings, as one on states of two blocks of n bytes
abbrev pub on_halves : ℕ → (List ℕ → List ℕ) → Halves → Halves
on_halves n f s =
    let t = f (s.lower ++ s.upper) in
    halves (drop n t) (take n t)

abbrev pub narrow_mixing : Halves → Halves
narrow_mixing = on_halves 16 (permuted narrow)

abbrev pub wide_mixing : Halves → Halves
wide_mixing = on_halves 32 (permuted wide)

abbrev pub narrow_mark : ℕ
narrow_mark = 1

abbrev pub wide_mark : ℕ
wide_mark = 2

-- Both are mixers. The proofs stand here since the code's ghost members cite them.
on_halves_lawful : (n mark : ℕ) (f : List ℕ → List ℕ) → (n ≡ 16) ⊎ (n ≡ 32) → 1 ≤ mark → mark ≤ 255 → Keeps (n + n) f → Lawful n mark (on_halves n f)
on_halves_lawful n mark f w lo hi keeps = record {
  width = w;
  least = lo;
  most = hi;
  sized = λ s b. length-halves n keeps s.lower s.upper b.1 b.0;
  bytes = λ s z b. Bytes-halves n keeps s.lower s.upper b.1 b.0;
}

pub narrow_lawful : Lawful 16 narrow_mark narrow_mixing
narrow_lawful = on_halves_lawful 16 narrow_mark (permuted narrow) (inl refl) (lit≤ tt) (lit≤ tt) narrow_keeps

pub wide_lawful : Lawful 32 wide_mark wide_mixing
wide_lawful = on_halves_lawful 32 wide_mark (permuted wide) (inr refl) (lit≤ tt) (lit≤ tt) wide_keeps
