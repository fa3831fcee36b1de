use Rattle.std.proofs.Common.{ℕ, get_or, sym, ◌∙◌}
use Rattle.words.specs.declared.Group.{Group}
use Rattle.artemia.specs.Artemia.{joined}
use Rattle.artemia.specs.Lanes.{laid, constant_of, numbers_held}
use Rattle.words.proofs.Bytes.{all_four}
use Rattle.artemia.proofs.Lanes.{added_is, length-laid, Bytes-laid, xor_bytes-laid}
use Rattle.artemia.proofs.rounds.add.Goals as goal

pub returns : goal.returns
unfolding laid constant_of joined
returns g c =
    let m = g.W.Lane in
    let laws = g.met.W.Lane.laws in
    let n = m.kind.first_bytes in
    let s = c.args.x in
    let low = c.args.constant in
    let k : Group ℕ = record { x0 = get_or low 0 0; x1 = get_or low 1 0; x2 = get_or low 2 0; x3 = get_or low 3 0 } in
    all_four c.add_low.ensures c.add_low-2.ensures c.add_low-3.ensures c.add_low-4.ensures
    ∙ sym (xor_bytes-laid laws s k)
    ∙ sym (
    added_is (laid m.held s) (joined n k) (length-laid laws s ∙ sym (length-laid (numbers_held n) k)) (Bytes-laid laws s) (Bytes-laid (numbers_held n) k)
    )
