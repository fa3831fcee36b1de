-- The code of each fault, with the line and column that go with it, and how a fault is carried up.
use Rattle.std.specs.Prelude.{ℕ, Some, None, Ok, Err, Option, Result}
use Rattle.std.specs.Result.{result_map_both}
use Rattle.sheet.specs.declared.fault.ColumnFault.{ColumnFault}
use Rattle.sheet.specs.declared.fault.ColumnFault.TheVariants.{Shape, Range}
use Rattle.sheet.specs.declared.fault.Fault.{Fault}
use Rattle.sheet.specs.declared.fault.Fault.TheVariants.{BufferTooShort, TextLength, Column, OffSheet, NoSuchZone}
use Rattle.sheet.specs.declared.fault.Place.{Place}

abbrev pub code_of : Fault → ℕ
code_of BufferTooShort = 6
code_of TextLength = 8
code_of (Column (Shape p)) = 9
code_of (Column (Range p)) = 10
code_of OffSheet = 17
code_of NoSuchZone = 18

abbrev pub place_of : Fault → Option Place
place_of BufferTooShort = None
place_of TextLength = None
place_of (Column (Shape p)) = Some p
place_of (Column (Range p)) = Some p
place_of OffSheet = None
place_of NoSuchZone = None

-- the column `col` of a line
abbrev pub place_at : ℕ → ℕ → Place
place_at line col = record { line = line; column = col }

-- go on with what an Ok holds; a fault ends it: `and_then`, for which std has no word
abbrev pub through : {A B E : Type 0} → Result A E → (A → Result B E) → Result B E
through (Ok x) next = next x
through (Err e) next = Err e

-- a column's fault, whole, as one of the sheet
abbrev pub carried : {A : Type 0} → Result A ColumnFault → Result A Fault
carried r = result_map_both (λ x. x) Column r

-- done, or the same fault
abbrev pub answered : {A E : Type 0} → Result A E → Result Unit E
answered r = result_map_both (λ _. tt) (λ e. e) r
