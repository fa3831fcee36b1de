use Rattle.std.proofs.Common.{refl}
use Rattle.artemia.proofs.Quarters.{cut_is}
use Rattle.artemia.proofs.lane.U64Lane.cut.Goals as goal

pub returns : goal.returns
returns c = cut_is 2 16 refl c.args.self
