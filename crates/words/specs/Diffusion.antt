-- The four-word rule over any kind of word, by its exclusive or and its L, and the two-word rule on bytes.
use Rattle.std.specs.Prelude.{ℕ}
use Rattle.words.specs.declared.group.Group.{Group}
use Rattle.words.specs.declared.pair.Pair.{Pair}

unfoldable pub diffused : {W : Type 0} → (W → W → W) → (W → W) → Group W → Group W
diffused plus l x =
    let y0 = plus (plus (plus x.x0 x.x2) x.x3) (l (plus x.x1 x.x3)) in
    let y1 = plus (plus (plus x.x1 x.x3) y0) (l (plus x.x2 y0)) in
    let y2 = plus (plus (plus x.x2 y0) y1) (l (plus x.x3 y1)) in
    let y3 = plus (plus (plus x.x3 y1) y2) (l (plus y0 y2)) in
    record { x0 = y0; x1 = y1; x2 = y2; x3 = y3 }

abbrev pub coupled : (ℕ → ℕ → ℕ) → (ℕ → ℕ) → Pair → Pair
coupled plus l x =
    let y0 = plus x.x0 (l x.x1) in
    record { x0 = y0; x1 = plus x.x1 (l y0) }
