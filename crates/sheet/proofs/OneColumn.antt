-- What is written in a column is read back, and what is read is what would be written: one to one. Nothing cites it yet;
-- the calls on whole texts will stand on it.
use Rattle.std.proofs.Common.{◌≡◌, ℕ, ◌+◌, ◌-◌, ◌^◌, ◌<◌, ◌≤◌, true, leb, List, ◌++◌, length, replicate, ℤ, Ok, Err, Some, decimal, ok_or, sym, ap, ◌∙◌, arith, length-append}
use lib.Signed.{le_z, mag}
use Rattle.std.specs.Fmt.{signed_decimal}
use Rattle.std.proofs.lemmas.List.{length-replicate}
use Rattle.std.proofs.lemmas.Bool.{cond-true, and_parts, le-leb, leb-true, and_from}
use Rattle.std.proofs.lemmas.Fmt.{length-decimal-le, length_signed_le}
use Rattle.sheet.specs.Columns.{Numerals, plain, signed, unspaced, at_right, column_of, allows, between, read_column}
use Rattle.sheet.specs.Faults.{through}
use Rattle.sheet.specs.declared.column.Column.{Column}
use Rattle.sheet.specs.declared.fault.ColumnFault.TheVariants.{Shape, Range}
use Rattle.sheet.specs.declared.fault.Place.{Place}
use Rattle.sheet.proofs.Numbers.{bare_number, number-back, number-once}
use Rattle.sheet.proofs.Signs.{bare_signed, signed-back, signed-once}
use Rattle.sheet.proofs.Spaces.{spaces_in, unspaced-short, unspaced-spaces}
use Rattle.sheet.proofs.Outcomes.{through-ok, cond-ok, some-ok}

-- Numerals are one to one, for the numbers that fit.
pub record OneToOne {A : Type 0} (N : Numerals A) (Fits : A → Type 0) : Type 0 where
  -- what is written has no space in front
  pub bare : (n : A) → Fits n → unspaced (N.text n) ≡ N.text n
  -- what is written is read back
  pub back : (n : A) → Fits n → N.reads (N.text n) ≡ Some n
  -- what is read is what is written for it
  pub once : (ds : List ℕ) (n : A) → length ds ≤ 9 → N.reads ds ≡ Some n → ds ≡ N.text n

pub plain_one_to_one : OneToOne plain (λ n. n < 2 ^ 64)
plain_one_to_one = record { bare = bare_number; back = number-back; once = λ ds n short r. (number-once ds n short r).1 }

pub signed_one_to_one : OneToOne signed (λ z. mag z < 2 ^ 63)
signed_one_to_one = record { bare = bare_signed; back = signed-back; once = signed-once }

-- a column is as wide as it is meant to be
right_fills : (w : ℕ) (ds : List ℕ) → length ds ≤ w → length (at_right w ds) ≡ w
right_fills w ds h =
    length-append (replicate (w - length ds) 32) ds
    ∙ ap (λ k. k + length ds) (length-replicate (w - length ds) 32)
    ∙ omega arith

-- the text behind the spaces tells the column
right_once : (bs ds : List ℕ) → unspaced bs ≡ ds → bs ≡ at_right (length bs) ds
right_once bs ds d =
    let s = spaces_in bs in
    let l : length bs ≡ s.0 + length (unspaced bs) =
    ap length s.1
    ∙ length-append (replicate s.0 32) (unspaced bs)
    ∙ ap (λ k. k + length (unspaced bs)) (length-replicate s.0 32) in
    let k : s.0 ≡ length bs - length ds = omega (arith, l, ap length d) in
    s.1 ∙ ap (λ x. replicate s.0 32 ++ x) d ∙ ap (λ j. replicate j 32 ++ ds) k

module _ {A : Type 0} (N : Numerals A) (Fits : A → Type 0) (one : OneToOne N Fits) (c : Column A) where
  -- a number that the column may hold is read back, at every width
  pub back : (w : ℕ) (n : A) → Fits n → allows N c n ≡ true → read_column N c (column_of N w n) ≡ Ok n
  back w n f h =
      ap (λ ds. through (ok_or (N.reads ds) (Shape c.place)) (between N c))
      (unspaced-spaces (w - length (N.text n)) (N.text n) ∙ one.bare n f)
      ∙ ap (λ r. through (ok_or r (Shape c.place)) (between N c)) (one.back n f)
      ∙ cond-true (allows N c n) (Ok n) (Err (Range c.place)) h

  -- a number has one column of each width, and what is read is in range
  pub once : (bs : List ℕ) (n : A) → length bs ≤ 9 → read_column N c bs ≡ Ok n → (bs ≡ column_of N (length bs) n) × (allows N c n ≡ true)
  once bs n short r =
      let t = through-ok (ok_or (N.reads (unspaced bs)) (Shape c.place)) (between N c) n r in
      let d = cond-ok (allows N c t.0) t.0 n (Range c.place) t.2 in
      let e = some-ok (N.reads (unspaced bs)) (Shape c.place) t.0 t.1 ∙ ap Some d.1 in (
        right_once bs (N.text n) (one.once (unspaced bs) n (omega (arith, unspaced-short bs)) e),
        ap (allows N c) (sym d.1) ∙ d.0,
      )

-- The same of both kinds, in the words of their orders.
pub fills_width : (w n : ℕ) → 0 < w → n < 10 ^ w → n < 2 ^ 64 → length (column_of plain w n) ≡ w
fills_width w n some h f = right_fills w (decimal n) (length-decimal-le w n some h f)

pub fills_width_signed : (w : ℕ) (z : ℤ) → mag z + 1 < 10 ^ w → mag z < 2 ^ 63 → length (column_of signed (w + 1) z) ≡ w + 1
fills_width_signed w z h f = right_fills (w + 1) (signed_decimal z) (length_signed_le w z h f)

module _ (p : Place) where
  pub reads_back : (w least most n : ℕ) → n < 2 ^ 64 → least ≤ n → n ≤ most → read_column plain (record { place = p; least = least; most = most }) (column_of plain w n) ≡ Ok n
  reads_back w least most n f l m = back plain _ plain_one_to_one _ w n f (and_from (leb least n) (leb n most) (le-leb least n l) (le-leb n most m))

  pub reads_back_signed : (w : ℕ) (least most z : ℤ) → mag z < 2 ^ 63 → le_z least z ≡ true → le_z z most ≡ true →
      read_column signed (record { place = p; least = least; most = most }) (column_of signed w z) ≡ Ok z
  reads_back_signed w least most z f l m = back signed _ signed_one_to_one _ w z f (and_from (le_z least z) (le_z z most) l m)

  pub written_once : (bs : List ℕ) (least most n : ℕ) → length bs ≤ 9 → read_column plain (record { place = p; least = least; most = most }) bs ≡ Ok n →
      (bs ≡ column_of plain (length bs) n) × (least ≤ n) × (n ≤ most)
  written_once bs least most n short r =
      let t = once plain _ plain_one_to_one (record { place = p; least = least; most = most }) bs n short r in
      let h = and_parts (leb least n) (leb n most) t.1 in
      (t.0, leb-true least n h.0, leb-true n most h.1)

  pub written-once_signed : (bs : List ℕ) (least most z : ℤ) → length bs ≤ 9 → read_column signed (record { place = p; least = least; most = most }) bs ≡ Ok z →
      (bs ≡ column_of signed (length bs) z) × (le_z least z ≡ true) × (le_z z most ≡ true)
  written-once_signed bs least most z short r =
      let t = once signed _ signed_one_to_one (record { place = p; least = least; most = most }) bs z short r in
      let h = and_parts (le_z least z) (le_z z most) t.1 in
      (t.0, h.0, h.1)
