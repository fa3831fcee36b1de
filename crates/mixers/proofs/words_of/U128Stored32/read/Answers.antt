use Rattle.std.proofs.Common.{rules}
use Rattle.artemia.proofs.Quarters.{read_is}
use Rattle.mixers.proofs.words_of.U128Stored32.read.Goals as goal

pub returns : goal.returns
returns c = read_is 15 _ c.args.bytes.now c.unwrap.result c.requires (λ i. search rules) (search rules) c.from_le_bytes.ensures
