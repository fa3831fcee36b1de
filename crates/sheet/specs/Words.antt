-- Faults as a person reads them.
use Rattle.std.specs.Prelude.{ℕ, List, ◌++◌, decimal, codes}
use Rattle.sheet.specs.declared.fault.ColumnFault.{ColumnFault}
use Rattle.sheet.specs.declared.fault.ColumnFault.TheVariants.{Shape, Range}
use Rattle.sheet.specs.declared.fault.Fault.{Fault}
use Rattle.sheet.specs.declared.fault.Fault.TheVariants.{BufferTooShort, TextLength, Column, OffSheet, NoSuchZone}
use Rattle.sheet.specs.declared.fault.Place.{Place}

abbrev pub place_words : Place → List ℕ
place_words p = codes "line " ++ decimal p.line ++ codes ", column " ++ decimal p.column

abbrev pub column_words : ColumnFault → List ℕ
column_words (Shape p) = place_words p ++ codes " is not written as it should be"
column_words (Range p) = place_words p ++ codes " may not hold this number"

abbrev pub fault_words : Fault → List ℕ
fault_words BufferTooShort = codes "the buffer is shorter than the text"
fault_words TextLength = codes "no sheet's text has this length"
fault_words (Column e) = column_words e
fault_words OffSheet = codes "the position is not below the width"
fault_words NoSuchZone = codes "there is no such zone"
