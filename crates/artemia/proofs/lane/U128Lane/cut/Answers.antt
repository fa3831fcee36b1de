use Rattle.std.proofs.Common.{refl}
use Rattle.artemia.proofs.Quarters.{cut_is}
use Rattle.artemia.proofs.lane.U128Lane.cut.Goals as goal

pub returns : goal.returns
returns c = cut_is 4 32 refl c.args.self
