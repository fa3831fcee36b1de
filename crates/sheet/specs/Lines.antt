-- One line of a text: what is written for it, and how it is judged.
use Rattle.std.specs.Prelude.{ℕ, ℤ, cond, List, [], ◌∷◌, ◌++◌, take, drop, Ok, Err, Result, ◌==◌, slice_index}
use Rattle.sheet.specs.Columns.{plain, signed, column_at, column_of, between, read_column}
use Rattle.sheet.specs.Faults.{place_at, through}
use Rattle.sheet.specs.Limits.{grade_most, width_least, width_most, target_most, trim_least, trim_most}
use Rattle.sheet.specs.declared.column.Column.{Column}
use Rattle.sheet.specs.declared.fault.ColumnFault.{ColumnFault}
use Rattle.sheet.specs.declared.fault.ColumnFault.TheVariants.{Shape}
use Rattle.sheet.specs.declared.lines.Head.{Head}
use Rattle.sheet.specs.declared.zone.Zone.{Zone}

abbrev pub line_feed : List ℕ
line_feed = 10 ∷ []

-- line 0: the grade, how many zones there are, the width
abbrev pub head_text : ℕ → ℕ → ℕ → List ℕ
head_text grade count width =
    column_of plain 6 grade ++ (column_of plain 4 count ++ (column_of plain 6 width ++ line_feed))

-- line i: zone i, its target, its trim
abbrev pub zone_text : ℕ → Zone → List ℕ
zone_text i z = column_of plain 4 i ++ (column_of plain 6 z.target ++ (column_of signed 6 z.trim ++ line_feed))

-- the columns of zone i that may be set
abbrev pub target_column : ℕ → Column ℕ
target_column i = column_at i 2 0 target_most

abbrev pub trim_column : ℕ → Column ℤ
trim_column i = column_at i 3 trim_least trim_most

-- the end of a line is its column 4
abbrev pub read_end : ℕ → List ℕ → Result Unit ColumnFault
read_end line bs = cond (slice_index bs 16 == 10) (Ok tt) (Err (Shape (place_at line 4)))

-- line 0 of a text of so many zones: its columns from left to right, and then its end
abbrev pub read_head : ℕ → List ℕ → Result Head ColumnFault
read_head count bs =
    through (read_column plain (column_at 0 1 1 grade_most) (take 6 bs)) (λ g.
    through (read_column plain (column_at 0 2 count count) (take 4 (drop 6 bs))) (λ _.
    through (read_column plain (column_at 0 3 width_least width_most) (take 6 (drop 10 bs))) (λ w.
    through (read_end 0 bs) (λ _.
    Ok (record { grade = g; width = w })))))

-- line i, of zone i
abbrev pub read_zone : ℕ → List ℕ → Result Zone ColumnFault
read_zone i bs =
    through (read_column plain (column_at i 1 i i) (take 4 bs)) (λ _.
    through (read_column plain (target_column i) (take 6 (drop 4 bs))) (λ t.
    through (read_column signed (trim_column i) (take 6 (drop 10 bs))) (λ m.
    through (read_end i bs) (λ _.
    Ok (record { target = t; trim = m })))))

-- what a zone is to be set to, by its places in line i: the target before the trim
abbrev pub judge_zone : ℕ → Zone → Result Unit ColumnFault
judge_zone i z =
    through (between plain (target_column i) z.target) (λ _.
    through (between signed (trim_column i) z.trim) (λ _.
    Ok tt))
