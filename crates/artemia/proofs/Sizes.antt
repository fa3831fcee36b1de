-- What comes out of each layer, and of the rounds: as many bytes as went in.
use Rattle.std.proofs.Common.{◌≡◌, ℕ, zero, suc, ◌+◌, ◌*◌, List, [], ◌∷◌, ◌++◌, length, take, drop, refl, ◌∙◌, suc-mul, arith, length-append, length-drop, length-take}
use lib.Bits.{bit_xor}
use lib.ListN.{length-map}
use Rattle.words.specs.Bytes.{low_bytes, Bytes}
use Rattle.words.specs.Diffusion.{diffused}
use Rattle.words.specs.Linear.{wide_third}
use Rattle.words.specs.Sbox.{sbox_of}
use Rattle.words.proofs.Bytes.{length-low_bytes, Bytes-low_bytes, Bytes-append, Bytes-take, Bytes-drop}
use Rattle.words.proofs.Field.{sbox_byte}
use Rattle.artemia.specs.Artemia.{Kind, substituted, parts, cut, four, two, joined, round, rounds, permuted, narrow, wide}

length-append-four : (n : ℕ) (a b c d : List ℕ) → length a ≡ n → length b ≡ n → length c ≡ n → length d ≡ n → length (a ++ (b ++ (c ++ d))) ≡ 4 * n
length-append-four n a b c d la lb lc ld = simp length-append (omega arith)

pub length-four : (n : ℕ) (lin : ℕ → ℕ) (s : List ℕ) → length (four n lin s) ≡ 4 * n
unfolding four joined
length-four n lin s =
    let g = diffused bit_xor lin (cut n s) in
    length-append-four n (low_bytes n g.x0) (low_bytes n g.x1) (low_bytes n g.x2) (low_bytes n g.x3) (length-low_bytes n g.x0) (length-low_bytes n g.x1) (length-low_bytes n g.x2) (length-low_bytes n g.x3)

pub Bytes-substituted : (s : List ℕ) → Bytes s → Bytes (substituted s)
Bytes-substituted [] p = tt
Bytes-substituted (b ∷ s) p = (sbox_byte b p.0, Bytes-substituted s p.1)

Bytes-parts : (n k : ℕ) (f : List ℕ → List ℕ) → ((s : List ℕ) → Bytes (f s)) → (s : List ℕ) → Bytes (parts n k f s)
unfolding parts
Bytes-parts n zero f h s = tt
Bytes-parts n (suc k) f h s = Bytes-append (f (take n s)) (parts n k f (drop n s)) (h (take n s)) (Bytes-parts n k f h (drop n s))

length-parts : (n k m : ℕ) (f : List ℕ → List ℕ) → ((s : List ℕ) → length (f s) ≡ m) → (s : List ℕ) → length (parts n k f s) ≡ k * m
unfolding parts
length-parts n zero m f h s = omega arith
length-parts n (suc k) m f h s =
    let one = h (take n s) in
    let rest = length-parts n k m f h (drop n s) in
    let e = suc-mul k m in
    simp length-append (omega arith)

Bytes-four : (n : ℕ) (lin : ℕ → ℕ) (s : List ℕ) → Bytes (four n lin s)
unfolding four joined
Bytes-four n lin s =
    let g = diffused bit_xor lin (cut n s) in
    let b = Bytes-low_bytes n in
    Bytes-append (low_bytes n g.x0) _ (b g.x0) (Bytes-append (low_bytes n g.x1) _ (b g.x1) (Bytes-append (low_bytes n g.x2) _ (b g.x2) (b g.x3)))

Bytes-two : (s : List ℕ) → Bytes (two s)
unfolding two
Bytes-two s = Bytes-append (low_bytes 1 _) (low_bytes 1 _) (Bytes-low_bytes 1 _) (Bytes-low_bytes 1 _)

length-two : (s : List ℕ) → length (two s) ≡ 2
unfolding two low_bytes
length-two s = refl

module _ (k : Kind) (sized : (s : List ℕ) → length (k.third s) ≡ k.second_bytes) (byted : (s : List ℕ) → Bytes (k.third s)) where
  length-rounds : (cs s : List ℕ) → length s ≡ 16 * k.second_bytes → length (rounds k cs s) ≡ 16 * k.second_bytes
  unfolding rounds round
  length-rounds [] s e = e
  length-rounds (c ∷ cs) s e = length-rounds cs (round k c s) (length-map _ sbox_of ∙ length-parts k.second_bytes 16 k.second_bytes k.third sized _)

  Bytes-rounds : (cs s : List ℕ) → Bytes s → Bytes (rounds k cs s)
  unfolding rounds round
  Bytes-rounds [] s p = p
  Bytes-rounds (c ∷ cs) s p = Bytes-rounds cs (round k c s) (Bytes-substituted _ (Bytes-parts k.second_bytes 16 k.third byted _))

-- a permutation gives a state of its own length, and bytes
pub record Keeps (n : ℕ) (f : List ℕ → List ℕ) : Type 0 where
  pub sized : (s : List ℕ) → length s ≡ n → length (f s) ≡ n
  pub bytes : (s : List ℕ) → Bytes s → Bytes (f s)

permuted_keeps : (k : Kind) → ((s : List ℕ) → length (k.third s) ≡ k.second_bytes) → ((s : List ℕ) → Bytes (k.third s)) → Keeps (16 * k.second_bytes) (permuted k)
unfolding permuted
permuted_keeps k sized byted = record { sized = length-rounds k sized byted _; bytes = Bytes-rounds k sized byted _ }

pub narrow_keeps : Keeps 32 (permuted narrow)
narrow_keeps = permuted_keeps narrow length-two Bytes-two

pub wide_keeps : Keeps 64 (permuted wide)
wide_keeps = permuted_keeps wide (length-four 1 wide_third) (Bytes-four 1 wide_third)

-- a state of two halves, l below u, put through such a function and cut again
module _ (n : ℕ) {f : List ℕ → List ℕ} (keeps : Keeps (n + n) f) (l u : List ℕ) where
  pub length-halves : length l ≡ n → length u ≡ n → (length (drop n (f (l ++ u))) ≡ n) × (length (take n (f (l ++ u))) ≡ n)
  length-halves el eu =
      let e : length (f (l ++ u)) ≡ n + n = keeps.sized (l ++ u) (simp length-append (omega arith)) in
      (simp length-drop (omega arith), simp length-take (omega arith))

  pub Bytes-halves : Bytes l → Bytes u → Bytes (drop n (f (l ++ u))) × Bytes (take n (f (l ++ u)))
  Bytes-halves bl bu =
      let t = keeps.bytes (l ++ u) (Bytes-append l u bl bu) in
      (Bytes-drop n (f (l ++ u)) t, Bytes-take n (f (l ++ u)) t)
