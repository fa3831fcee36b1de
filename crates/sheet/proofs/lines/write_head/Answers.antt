use Rattle.std.proofs.Common.{refl, rules}
use Rattle.sheet.specs.Columns.{plain, column_of}
use Rattle.sheet.proofs.LineLaid.{line_laid}
use Rattle.sheet.proofs.lines.write_head.Goals as goal

pub returns : goal.returns
returns c =
    line_laid c.args.out.now c.write_column.new.out c.write_column-2.new.out c.write_column-3.new.out
    (λ w. column_of plain w c.args.head.grade) (λ w. column_of plain w c.args.count) (λ w. column_of plain w c.args.head.width) 6 4 6 (search rules) refl
    c.write_column.auto.out c.write_column.ensures c.write_column-2.auto.out c.write_column-2.ensures c.write_column-3.auto.out (rw c.from.ensures at c.write_column-3.ensures)
