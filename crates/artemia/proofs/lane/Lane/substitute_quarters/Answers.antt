use Rattle.std.proofs.Common.{ap, ◌∙◌}
use Rattle.artemia.specs.Artemia.{substituted}
use Rattle.artemia.proofs.Parts.{second_is}
use Rattle.artemia.proofs.lane.Lane.substitute_quarters.Goals as goal

pub returns : goal.returns
returns g c =
    second_is g.met.Self.Short.Short.laws c.cut.result c.map.result c.map.ensures.x0 c.map.ensures.x1 c.map.ensures.x2 c.map.ensures.x3
    ∙ ap substituted c.cut.ensures
