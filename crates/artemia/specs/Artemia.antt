-- The two permutations of Artemia, narrow and wide. A state is a byte string, the lowest byte first, of 32 or 64 bytes; a
-- word is the number of some of its bytes.
use Rattle.std.specs.Prelude.{ℕ, zero, suc, ◌+◌, ◌*◌, ◌^◌, List, [], ◌∷◌, ◌++◌, map, length, take, drop, bit_xor}
use Rattle.words.specs.declared.Group.{Group}
use Rattle.words.specs.Bytes.{low_bytes, value}
use Rattle.words.specs.Diffusion.{diffused, coupled}
use Rattle.words.specs.Linear.{wide_third, narrow_second, wide_second, narrow_first, wide_first, narrow_third}
use Rattle.words.specs.Sbox.{sbox_of}

-- S at every byte
abbrev pub substituted : List ℕ → List ℕ
substituted s = map sbox_of s

-- f at each of the first k parts of n bytes
unfoldable pub parts : ℕ → ℕ → (List ℕ → List ℕ) → List ℕ → List ℕ
parts n zero f s = []
parts n (suc k) f s = f (take n s) ++ parts n k f (drop n s)

-- the word of n bytes that follows the first `from` bytes
abbrev pub word : ℕ → ℕ → List ℕ → ℕ
word n from s = value (take n (drop from s))

-- a string of 4 n bytes cut into four words, the lowest first, and four words put together
unfoldable pub cut : ℕ → List ℕ → Group ℕ
cut n s = record { x0 = word n 0 s; x1 = word n n s; x2 = word n (n + n) s; x3 = word n (n + n + n) s }

unfoldable pub joined : ℕ → Group ℕ → List ℕ
joined n g = low_bytes n g.x0 ++ (low_bytes n g.x1 ++ (low_bytes n g.x2 ++ low_bytes n g.x3))

-- the four-word rule on a string of 4 n bytes
unfoldable pub four : ℕ → (ℕ → ℕ) → List ℕ → List ℕ
four n l s = joined n (diffused bit_xor l (cut n s))

-- the two-word rule on a string of two bytes
unfoldable pub two : List ℕ → List ℕ
two s =
    let y = coupled bit_xor narrow_third (record { x0 = word 1 0 s; x1 = word 1 1 s }) in
    low_bytes 1 y.x0 ++ low_bytes 1 y.x1

-- exclusive or with a number
unfoldable pub added : ℕ → List ℕ → List ℕ
added c s = low_bytes (length s) (bit_xor (value s) c)

-- What tells the two permutations apart. D1 is the four-word rule on words of `first_bytes` bytes with the map `first`; D2
-- the same rule on words of `second_bytes` bytes with `second`, in each word of D1; D3 is `third`, on the bytes of each word
-- of D2. `places` has one place for each round constant.
pub record Kind : Type 0 where
  pub first_bytes : ℕ
  pub second_bytes : ℕ
  pub first : ℕ → ℕ
  pub second : ℕ → ℕ
  pub third : List ℕ → List ℕ
  pub places : List ℕ

-- One round, with the constant c: it is added, then come D1, D2 and D3, with S after each.
unfoldable pub round : Kind → ℕ → List ℕ → List ℕ
round k c s =
    let d1 = four k.first_bytes k.first (added c s) in
    let d2 = parts k.first_bytes 4 (four k.second_bytes k.second) (substituted d1) in
    let d3 = parts k.second_bytes 16 k.third (substituted d2) in
    substituted d3

unfoldable pub rounds : Kind → List ℕ → List ℕ → List ℕ
rounds k [] s = s
rounds k (c ∷ cs) s = rounds k cs (round k c s)

-- the round constants: each word times two to the power of its place
abbrev pub placed : List ℕ → List ℕ → List ℕ
placed [] ps = []
placed (w ∷ ws) [] = []
placed (w ∷ ws) (p ∷ ps) = w * 2 ^ p ∷ placed ws ps

abbrev pub constants : Kind → List ℕ
constants k = placed (0x0f1e2d3b ∷ 0x4b5a6978 ∷ 0x8796a5b4 ∷ 0xc3d2e1f0 ∷ 0x2d3c4b5a ∷ 0x69788796 ∷ []) k.places

-- six rounds
unfoldable pub permuted : Kind → List ℕ → List ℕ
permuted k s = rounds k (constants k) s

abbrev pub narrow : Kind
narrow = record {
  first_bytes = 8;
  second_bytes = 2;
  first = narrow_first;
  second = narrow_second;
  third = two;
  places = 0 ∷ 64 ∷ 128 ∷ 192 ∷ 32 ∷ 160 ∷ [];
}

abbrev pub wide : Kind
wide = record {
  first_bytes = 16;
  second_bytes = 4;
  first = wide_first;
  second = wide_second;
  third = four 1 wide_third;
  places = 0 ∷ 128 ∷ 256 ∷ 384 ∷ 32 ∷ 288 ∷ [];
}
