use Rattle.std.proofs.Common.{length, ap, arith}
use Rattle.sheet.proofs.Spaces.{unspaced-short}
use Rattle.sheet.proofs.column.Column.read.Goals as goal

pub read-requires : goal.read-requires
read-requires g c = omega (arith, ap length c.behind_spaces-text.ensures, unspaced-short c.args.bytes.now)
