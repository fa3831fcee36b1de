use Rattle.std.proofs.Common.{rules}
use Rattle.artemia.proofs.Parts.{third_is}
use Rattle.artemia.proofs.lane.diffuse_quarters.Goals as goal

pub returns : goal.returns
returns g c = third_is g.met.S.Short.laws c.args.x c.map.result g.S.Short.kind.third (search rules) (search rules) (search rules) (search rules)
