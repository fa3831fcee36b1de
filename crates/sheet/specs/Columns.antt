-- A column of text: spaces, and then a number in decimal digits up to the column's end.
use Rattle.std.specs.Prelude.{ℕ, ◌+◌, ◌-◌, ◌*◌, Bool, cond, not, ◌&&◌, ◌||◌, List, [], ◌∷◌, ◌++◌, length, drop, replicate, ℤ, pos, neg_ℤ, Some, None, Option, Ok, Err, decimal, Result, ◌==◌, int_le, nat_le, nat_lt, slice_index, ok_or, option_map, option_and_then}
use Rattle.std.specs.Fmt.{signed_decimal}
use Rattle.std.specs.List.{prefix_len}
use Rattle.std.specs.Str.{all_ascii_digits}
use Rattle.sheet.specs.Faults.{place_at, through}
use Rattle.sheet.specs.declared.column.Column.{Column}
use Rattle.sheet.specs.declared.fault.ColumnFault.{ColumnFault}
use Rattle.sheet.specs.declared.fault.ColumnFault.TheVariants.{Shape, Range}

-- one digit or more, and no zero in front of another
abbrev pub is_number : List ℕ → Bool
is_number ds = nat_lt 0 (length ds) && (all_ascii_digits ds && (length ds == 1 || not (slice_index ds 0 == 48)))

-- the number that digits write, after n
abbrev pub read_on : ℕ → List ℕ → ℕ
read_on n [] = n
read_on n (c ∷ cs) = read_on (10 * n + (c - 48)) cs

abbrev pub read_number : List ℕ → Option ℕ
read_number ds = cond (is_number ds) (Some (read_on 0 ds)) None

-- a number below zero has a minus before its digits; zero has none
abbrev pub below_zero : ℕ → Option ℤ
below_zero n = cond (n == 0) None (Some (neg_ℤ (pos n)))

abbrev pub read_signed : List ℕ → Option ℤ
read_signed ds =
    cond (slice_index ds 0 == 45) (option_and_then below_zero (read_number (drop 1 ds))) (option_map pos (read_number ds))

-- the numbers that columns hold: which one a text reads as, the text that writes one, and whether one is at most another
pub record Numerals (A : Type 0) : Type 0 where
  pub reads : List ℕ → Option A
  pub text : A → List ℕ
  pub at_most : A → A → Bool

-- digits alone
abbrev pub plain : Numerals ℕ
plain = record { reads = read_number; text = decimal; at_most = nat_le }

-- digits, with a minus before them below zero
abbrev pub signed : Numerals ℤ
signed = record { reads = read_signed; text = signed_decimal; at_most = int_le }

-- the column `number` of a line, for what lies from `least` to `most`
abbrev pub column_at : {A : Type 0} → ℕ → ℕ → A → A → Column A
column_at line number least most = record { place = place_at line number; least = least; most = most }

-- what follows the spaces in front
abbrev pub unspaced : List ℕ → List ℕ
unspaced bs = drop (prefix_len (λ c. c == 32) bs) bs

-- a text at the right end of a column of w bytes
abbrev pub at_right : ℕ → List ℕ → List ℕ
at_right w ds = replicate (w - length ds) 32 ++ ds

module _ {A : Type 0} (N : Numerals A) where
  -- the column of w bytes that is written for a number
  abbrev pub column_of : ℕ → A → List ℕ
  column_of w n = at_right w (N.text n)

  -- whether a column may hold a number
  abbrev pub allows : Column A → A → Bool
  allows c n = N.at_most c.least n && N.at_most n c.most

  abbrev pub between : Column A → A → Result A ColumnFault
  between c n = cond (allows c n) (Ok n) (Err (Range c.place))

  -- the number in a column: its shape is judged before its range
  abbrev pub read_column : Column A → List ℕ → Result A ColumnFault
  read_column c bs = through (ok_or (N.reads (unspaced bs)) (Shape c.place)) (between c)
