use Rattle.std.proofs.Common.{take, drop, ◌++◌, ap, ◌∙◌}
use Rattle.artemia.specs.Artemia.{permuted}
use Rattle.artemia.proofs.Lanes.{in_halves}
use Rattle.mixers.proofs.words_of.permute_state.Goals as goal

pub returns : goal.returns
returns g c =
    let k = g.W.Lane.kind in
    let s = c.args.state.now in
    let t = permuted k (s.lower.bytes ++ s.upper.bytes) in
    let cut = in_halves g.met.W.Lane.laws c.permute-y.result t (c.permute-y.ensures ∙ ap (permuted k) c.load.ensures) in
    let upper = c.store.ensures.upper ∙ cut.0 ∙ ap (λ n. drop n t) g.met.W.Stored.two in
    let lower = c.store.ensures.lower ∙ cut.1 ∙ ap (λ n. take n t) g.met.W.Stored.two in
    cc
