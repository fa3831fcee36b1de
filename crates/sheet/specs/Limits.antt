-- Every limit of a grade sheet, once. Widths are in mm, targets and trims in hundredths of a per cent moisture.
use Rattle.std.specs.Prelude.{ℕ, ℤ, pos, negsuc}

abbrev pub grade_most : ℕ
grade_most = 99999

abbrev pub zones_most : ℕ
zones_most = 48

abbrev pub width_least : ℕ
width_least = 100

abbrev pub width_most : ℕ
width_most = 9999

abbrev pub target_most : ℕ
target_most = 10000

-- −500 to 500
abbrev pub trim_least : ℤ
trim_least = negsuc 499

abbrev pub trim_most : ℤ
trim_most = pos 500

-- the bytes of a line of text: three columns, sixteen together, and a line feed
abbrev pub line_bytes : ℕ
line_bytes = 17
