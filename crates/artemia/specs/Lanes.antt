-- States as the code holds them: four words, and the bytes that these stand for.
use Rattle.std.specs.Prelude.{◌≡◌, ℕ, List, [], ◌∷◌, ◌++◌, map, length, slice_index, refl}
use Rattle.words.specs.declared.Group.{Group}
use Rattle.words.specs.Bytes.{low_bytes, value, Bytes}
use Rattle.words.proofs.Bytes.{length-low_bytes, Bytes-low_bytes}
use Rattle.artemia.specs.Artemia.{Kind, substituted, parts, joined, four, constants, narrow, wide}

-- the bytes of four words, where `held` gives those of one
unfoldable pub laid : {W : Type 0} → (W → List ℕ) → Group W → List ℕ
laid held g = held g.x0 ++ (held g.x1 ++ (held g.x2 ++ held g.x3))

-- the number that four words of n bytes make
unfoldable pub constant_of : ℕ → List ℕ → ℕ
constant_of n c = value (joined n (record { x0 = slice_index c 0; x1 = slice_index c 1; x2 = slice_index c 2; x3 = slice_index c 3 }))

-- what a round does to the bytes of one word after D1: S, D2, S, D3, S
unfoldable pub finished : Kind → List ℕ → List ℕ
finished k s = substituted (parts k.second_bytes 4 k.third (substituted (four k.second_bytes k.second (substituted s))))

-- a word has n bytes
pub record HeldLaws {W : Type 0} (n : ℕ) (held : W → List ℕ) : Type 0 where
  pub sized : (x : W) → length (held x) ≡ n
  pub bytes : (x : W) → Bytes (held x)

-- They hold of numbers as words of n bytes. The proof stands here since the code's ghost members cite it.
pub numbers_held : (n : ℕ) → HeldLaws n (low_bytes n)
numbers_held n = record { sized = length-low_bytes n; bytes = Bytes-low_bytes n }

-- the round constants, each by the 64 low bits of its four words, which are the same at both widths
abbrev pub constant_rows : List (List ℕ)
constant_rows =
    (0x0f1e2d3b ∷ 0 ∷ 0 ∷ 0 ∷ [])
    ∷ (0 ∷ 0x4b5a6978 ∷ 0 ∷ 0 ∷ [])
    ∷ (0 ∷ 0 ∷ 0x8796a5b4 ∷ 0 ∷ [])
    ∷ (0 ∷ 0 ∷ 0 ∷ 0xc3d2e1f0 ∷ [])
    ∷ (0x2d3c4b5a00000000 ∷ 0 ∷ 0 ∷ 0 ∷ [])
    ∷ (0 ∷ 0 ∷ 0x6978879600000000 ∷ 0 ∷ [])
    ∷ []

abbrev pub Constants : Kind → Type 0
Constants k = map (constant_of k.first_bytes) constant_rows ≡ constants k

-- Both are computed.
pub narrow_constants : Constants narrow
unfolding constant_of joined value low_bytes
narrow_constants = refl

pub wide_constants : Constants wide
unfolding constant_of joined value low_bytes
wide_constants = refl
