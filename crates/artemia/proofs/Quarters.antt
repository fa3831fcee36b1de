-- A word and its quarters, and what the code makes of a word's bytes.
use Rattle.std.proofs.Common.{◌≡◌, ℕ, suc, ◌+◌, ◌-◌, ◌*◌, ◌/◌, ◌^◌, ◌<◌, List, ◌++◌, length, get_or, sym, ap, ◌∙◌, arith}
use lib.Bits.{bit_and, and_mask}
use lib.ListN.{length-map}
use Rattle.std.specs.Int.{byte_worth, bytes_low_first, sum_through}
use Rattle.std.proofs.Math.Nat.{div-div-eq-div-mul}
use Rattle.std.proofs.lemmas.List.{ext_get_or, get_or-map}
use Rattle.words.specs.declared.Group.{Group}
use Rattle.words.specs.Bytes.{low_bytes}
use Rattle.words.specs.Sbox.{sbox_of}
use Rattle.words.proofs.Bytes.{length-low_bytes, Bytes-low_bytes, low_bytes-mod, low_bytes-add, low_bytes-parts, all_four}
use Rattle.words.proofs.Conversions.{to_low, of_low, bytes_of}
use Rattle.artemia.specs.Artemia.{substituted}
use Rattle.artemia.specs.Lanes.{laid}
use Rattle.artemia.proofs.Sizes.{Bytes-substituted}

-- k bytes are m bits
module _ (k m : ℕ) (bits : 256 ^ k ≡ 2 ^ m) where
  pub masked : (x : ℕ) → low_bytes k (bit_and x (2 ^ m - 1)) ≡ low_bytes k x
  masked x = ap (low_bytes k) (and_mask x m ∙ rw (← bits)) ∙ low_bytes-mod k x

  pub cut_is : (x : ℕ)
      → laid (low_bytes k) (record { x0 = bit_and x (2 ^ m - 1); x1 = bit_and (x / 256 ^ k) (2 ^ m - 1); x2 = bit_and (x / (256 ^ k * 256 ^ k)) (2 ^ m - 1); x3 = x / (256 ^ k * 256 ^ k * 256 ^ k) })
      ≡ low_bytes (k + (k + (k + k))) x
  unfolding laid
  cut_is x =
      let y = x / 256 ^ k in
      let z = x / (256 ^ k * 256 ^ k) in
      let e2 : y / 256 ^ k ≡ z = div-div-eq-div-mul x (256 ^ k) (256 ^ k) in
      let e3 : z / 256 ^ k ≡ x / (256 ^ k * 256 ^ k * 256 ^ k) = div-div-eq-div-mul x (256 ^ k * 256 ^ k) (256 ^ k) in
      let s1 = low_bytes-add k (k + (k + k)) x in
      let s2 = low_bytes-add k (k + k) y in
      let s3 = low_bytes-add k k z in
      all_four (masked x) (masked y) (masked z) (ap (low_bytes k) (sym e3))
      ∙ sym (s1 ∙ ap (λ l. low_bytes k x ++ l) (s2 ∙ ap (λ l. low_bytes k y ++ l) (ap (low_bytes (k + k)) e2 ∙ s3)))

-- a word that is made of four
pub join_is : (k r : ℕ) (g : Group ℕ) → g.x0 < 256 ^ k → g.x1 < 256 ^ k → g.x2 < 256 ^ k → r ≡ g.x0 + (g.x1 + (g.x2 + g.x3 * 256 ^ k) * 256 ^ k) * 256 ^ k
    → low_bytes (k + (k + (k + k))) r ≡ laid (low_bytes k) g
unfolding laid
join_is k r g h0 h1 h2 e =
    ap (low_bytes (k + (k + (k + k)))) e
    ∙ low_bytes-parts k (k + (k + k)) g.x0 (g.x1 + (g.x2 + g.x3 * 256 ^ k) * 256 ^ k) h0
    ∙ ap (λ l. low_bytes k g.x0 ++ l)
    (low_bytes-parts k (k + k) g.x1 (g.x2 + g.x3 * 256 ^ k) h1 ∙ ap (λ l. low_bytes k g.x1 ++ l) (low_bytes-parts k k g.x2 g.x3 h2))

-- S at the bytes of a word of n + 1
pub substitute_is : (n x r : ℕ) (b y : List ℕ) → b ≡ bytes_low_first 0 (suc n) x → length y ≡ suc n → ((i : ℕ) → i < suc n → get_or y i 0 ≡ sbox_of (get_or b i 0))
    → r ≡ sum_through (λ i. byte_worth i (get_or y i 0)) n → low_bytes (suc n) r ≡ substituted (low_bytes (suc n) x)
substitute_is n x r b y eb long each e =
    let read : b ≡ low_bytes (suc n) x = eb ∙ to_low (suc n) x in
    let sized : length b ≡ suc n = ap length read ∙ length-low_bytes (suc n) x in
    let same : y ≡ substituted b =
    ext_get_or 0 y (substituted b) (long ∙ sym (length-map b sbox_of ∙ sized))
    (λ i h. each i (omega arith) ∙ sym (get_or-map sbox_of b i 0 0 (omega arith))) in
    let whole : y ≡ substituted (low_bytes (suc n) x) = same ∙ ap substituted read in
    of_low n r (substituted (low_bytes (suc n) x)) (sym (ap length whole) ∙ long) (Bytes-substituted (low_bytes (suc n) x) (Bytes-low_bytes (suc n) x))
    (e ∙ ap (λ l. sum_through (λ i. byte_worth i (get_or l i 0)) n) whole)

-- a word that is read from a slice
pub read_is : (n r : ℕ) (s b : List ℕ) → length s ≡ suc n → ((i : ℕ) → get_or s i 0 < 256) → b ≡ s → r ≡ sum_through (λ i. byte_worth i (get_or b i 0)) n
    → low_bytes (suc n) r ≡ s
read_is n r s b long each same e = of_low n r s long (bytes_of s each) (e ∙ ap (λ l. sum_through (λ i. byte_worth i (get_or l i 0)) n) same)
