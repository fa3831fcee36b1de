use Rattle.std.proofs.Common.{sym, ap, ◌∙◌}
use Rattle.words.proofs.Bytes.{all_four}
use Rattle.artemia.specs.Artemia.{four}
use Rattle.artemia.specs.Lanes.{laid, constant_of}
use Rattle.artemia.proofs.Parts.{round_is}
use Rattle.artemia.proofs.rounds.round.Goals as goal

pub returns : goal.returns
unfolding laid
returns g c =
    let m = g.W.Lane in
    let y = c.spread-spread.result in
    let l = g.met.W.Lane.laws.sized in
    all_four c.map.ensures.x0 c.map.ensures.x1 c.map.ensures.x2 c.map.ensures.x3
    ∙ sym (
    round_is m.kind (constant_of m.kind.first_bytes c.args.constant) (laid m.held c.args.x)
    (m.held y.x0) (m.held y.x1) (m.held y.x2) (m.held y.x3) (l y.x0) (l y.x1) (l y.x2) (l y.x3)
    (sym (c.spread-spread.ensures ∙ ap (four m.kind.first_bytes m.kind.first) c.add.ensures))
    )
