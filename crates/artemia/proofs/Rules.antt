-- The rules of diffusion on words as the code holds them.
use Rattle.std.proofs.Common.{◌≡◌, ℕ, ◌<◌, List, [], ◌∷◌, ◌++◌, sym, refl, ap, ◌∙◌}
use lib.Bits.{bit_xor}
use Rattle.words.specs.declared.Group.{Group}
use Rattle.words.specs.declared.Pair.{Pair}
use Rattle.words.specs.Bytes.{low_bytes}
use Rattle.words.specs.Diffusion.{diffused, coupled}
use Rattle.words.specs.Linear.{narrow_third}
use Rattle.words.proofs.Bytes.{named, all_four}
use Rattle.words.proofs.Conversions.{one_value}
use Rattle.artemia.specs.Artemia.{joined, four, two}
use Rattle.artemia.proofs.Parts.{four-joined}

one_byte : (x : ℕ) → x < 256 → low_bytes 1 x ≡ x ∷ []
one_byte x h = named 1 x (x ∷ []) refl (h, tt) (sym (one_value x))

-- the rules on bytes that are written out
pub two_is : (a b : ℕ) (y : Pair) → y ≡ coupled bit_xor narrow_third (record { x0 = a; x1 = b }) → y.x0 < 256 → y.x1 < 256
    → two (a ∷ b ∷ []) ≡ y.x0 ∷ y.x1 ∷ []
unfolding two
two_is a b y e h0 h1 =
    let p : Pair → List ℕ = λ z. low_bytes 1 z.x0 ++ low_bytes 1 z.x1 in
    let q : (x z : ℕ) → Pair = λ x z. coupled bit_xor narrow_third (record { x0 = x; x1 = z }) in
    rw (one_value a, one_value b) (ap p (sym e) ∙ rw (one_byte y.x0 h0, one_byte y.x1 h1))

joined-one : (g : Group ℕ) → g.x0 < 256 → g.x1 < 256 → g.x2 < 256 → g.x3 < 256 → joined 1 g ≡ g.x0 ∷ g.x1 ∷ g.x2 ∷ g.x3 ∷ []
unfolding joined
joined-one g h0 h1 h2 h3 = all_four (one_byte g.x0 h0) (one_byte g.x1 h1) (one_byte g.x2 h2) (one_byte g.x3 h3)

pub four_is : (lin : ℕ → ℕ) (a b c d : ℕ) (y : Group ℕ) → y ≡ diffused bit_xor lin (record { x0 = a; x1 = b; x2 = c; x3 = d })
    → a < 256 → b < 256 → c < 256 → d < 256 → y.x0 < 256 → y.x1 < 256 → y.x2 < 256 → y.x3 < 256
    → four 1 lin (a ∷ b ∷ c ∷ d ∷ []) ≡ y.x0 ∷ y.x1 ∷ y.x2 ∷ y.x3 ∷ []
four_is lin a b c d y e ha hb hc hd h0 h1 h2 h3 =
    let g : Group ℕ = record { x0 = a; x1 = b; x2 = c; x3 = d } in
    ap (four 1 lin) (sym (joined-one g ha hb hc hd)) ∙ four-joined 1 lin g ha hb hc hd ∙ ap (joined 1) (sym e) ∙ joined-one y h0 h1 h2 h3
