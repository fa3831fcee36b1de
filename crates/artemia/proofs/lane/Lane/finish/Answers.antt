use Rattle.std.proofs.Common.{◌≡◌, ap, ◌∙◌}
use Rattle.artemia.specs.Artemia.{four, parts, substituted}
use Rattle.artemia.specs.Lanes.{laid, finished}
use Rattle.artemia.proofs.lane.Lane.finish.Goals as goal

pub returns : goal.returns
unfolding finished
returns g c =
    let k = g.Self.Short.Short.kind in
    c.join.ensures ∙ c.diffuse_quarters.ensures
    ∙ ap (λ t. substituted (parts k.second_bytes 4 k.third (substituted t))) (c.spread.ensures ∙ ap (four k.second_bytes k.second) c.substitute_quarters.ensures)
    ∙ ap (λ k. finished k (g.Self.Lane.held c.args.self)) g.met.Self.Lane.one_kind
