use Rattle.std.proofs.Common.{refl, arith, rules}
use Rattle.std.proofs.lemmas.Int.{ints}
use Rattle.sheet.specs.Columns.{plain, signed, column_of}
use Rattle.sheet.proofs.LineLaid.{line_laid, has_room_signed}
use Rattle.sheet.proofs.InRange.{widened}
use Rattle.sheet.proofs.lines.write_zone.Goals as goal

pub write_column-requires-3 : goal.write_column-requires-3
write_column-requires-3 c =
    rw (widened c.from-2.result c.args.zone.trim c.from-2.ensures (search rules) (search rules)) (has_room_signed c.args.zone.trim 5 _ (search rules) (omega (arith, ints)) (omega (arith, ints)))

pub returns : goal.returns
returns c =
    line_laid c.args.out.now c.write_column.new.out c.write_column-2.new.out c.write_column-3.new.out
    (λ w. column_of plain w c.args.i) (λ w. column_of plain w c.args.zone.target) (λ w. column_of signed w c.args.zone.trim) 4 6 6 (search rules) refl
    c.write_column.auto.out c.write_column.ensures c.write_column-2.auto.out (rw c.from.ensures at c.write_column-2.ensures) c.write_column-3.auto.out (rw (widened c.from-2.result c.args.zone.trim c.from-2.ensures (search rules) (search rules)) at c.write_column-3.ensures)
