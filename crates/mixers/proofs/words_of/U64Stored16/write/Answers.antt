use Rattle.std.proofs.Common.{◌∙◌}
use Rattle.words.proofs.Conversions.{to_low}
use Rattle.mixers.proofs.words_of.U64Stored16.write.Goals as goal

pub returns : goal.returns
returns c = c.copy_from_slice.ensures.after ∙ c.to_le_bytes.ensures ∙ to_low 8 c.args.self
