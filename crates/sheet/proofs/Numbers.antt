-- Digits and the number that they write.
use Rattle.std.proofs.Common.{◌≡◌, ℕ, ◌^◌, ◌<◌, ◌≤◌, true, false, not, ◌&&◌, ◌||◌, eqb, ltb, ◌≢◌, ◌⊎◌, List, [], ◌∷◌, length, get_or, Some, None, Ok, Err, Result, IsUtf8, decimal, sym, refl, ap, ◌∙◌, ⊎_elim, arith, rules}
use Rattle.std.specs.Char.{is_ascii_digit}
use Rattle.std.specs.Result.{result_ok}
use Rattle.std.specs.Str.{all_ascii_digits}
use Rattle.std.specs.Str.Parse.{ParsesUnsigned}
use Rattle.std.proofs.lemmas.Bool.{cond-true, cond-false, ne_eqb, eq-eqb, eqb-true, eqb-false, cases_eq, and_parts, and_from, or_left, or_right, or_cases, false_from_ne_true, lt-ltb, ltb-true, not-true}
use Rattle.std.proofs.lemmas.Option.{cond_some}
use Rattle.std.proofs.lemmas.Str.Parse.{IsNumeralModel, numerals_by_fold, digits_value_short, parse_plain}
use Rattle.std.proofs.lemmas.Str.{IsUtf8-from_ascii}
use Rattle.std.proofs.lemmas.Fmt.{IsAscii-from_digits, digits_decimal, digits_value-decimal, decimal-digits_value, decimal_nonempty, decimal_digit, first_decimal}
use Rattle.sheet.proofs.Spaces.{unspaced_step}
use Rattle.sheet.specs.Columns.{unspaced, read_on, is_number, read_number}

pub own : IsNumeralModel (λ ds. all_ascii_digits ds ≡ true) (read_on 0)
own = numerals_by_fold _ (search rules) read_on (search rules)

plain_decimal : (n : ℕ) → n < 2 ^ 64 → (eqb (length (decimal n)) 1 || not (eqb (get_or (decimal n) 0 0) 48)) ≡ true
plain_decimal n f =
    let front = eqb (get_or (decimal n) 0 0) 48 in
    ⊎_elim
    (λ z. or_left (eqb (length (decimal n)) 1) (not front) (eq-eqb (length (decimal n)) 1 (ap length (decimal_digit n (omega arith)))))
    (λ ne. or_right (eqb (length (decimal n)) 1) (not front) (ap not (ne_eqb (get_or (decimal n) 0 0) 48 (omega (arith, first_decimal n (omega arith) f)))))
    (cases_eq n 0)

-- what is written is read back
pub number-back : (n : ℕ) → n < 2 ^ 64 → read_number (decimal n) ≡ Some n
number-back n f =
    let ds = decimal n in
    cond-true (is_number ds) (Some (read_on 0 ds)) None
    (and_from (ltb 0 (length ds)) _ (lt-ltb 0 (length ds) (decimal_nonempty n f)) (and_from (all_ascii_digits ds) _ (digits_decimal own n f) (plain_decimal n f)))
    ∙ ap Some (digits_value-decimal own n f)

no_front : (ds : List ℕ) → (eqb (length ds) 1 || not (eqb (get_or ds 0 0) 48)) ≡ true → get_or ds 0 0 ≡ 48 → length ds ≡ 1
no_front ds p z =
    ⊎_elim
    (λ e. eqb-true (length ds) 1 e)
    (λ e. absurd (eqb-false (get_or ds 0 0) 48 (not-true (eqb (get_or ds 0 0) 48) e) z))
    (or_cases (eqb (length ds) 1) (not (eqb (get_or ds 0 0) 48)) p)

-- digits that are read are those that the number has
pub number-once : (ds : List ℕ) (n : ℕ) → length ds ≤ 9 → read_number ds ≡ Some n → (n < 10 ^ 9) × (ds ≡ decimal n)
number-once ds n short r =
    let t = cond_some (is_number ds) (read_on 0 ds) n r in
    let a = and_parts (ltb 0 (length ds)) (all_ascii_digits ds && (eqb (length ds) 1 || not (eqb (get_or ds 0 0) 48))) t.0 in
    let b = and_parts (all_ascii_digits ds) (eqb (length ds) 1 || not (eqb (get_or ds 0 0) 48)) a.1 in
    let small = digits_value_short own ds 9 b.0 (omega arith) in (
      omega (arith, small, t.1),
      sym (decimal-digits_value own ds b.0 (ltb-true 0 (length ds) a.0) (no_front ds b.1) (omega (arith, small))) ∙ ap decimal t.1,
    )

-- what `parse` answers, where no plus and no zero stands in front
module _ {E : Type 0} where
  pub parsed : (ds : List ℕ) (r : Result ℕ E) → length ds ≤ 9 → ParsesUnsigned 32 10 ds r → get_or ds 0 0 ≢ 43 → (length ds ≤ 1 ⊎ get_or ds 0 0 ≢ 48) → result_ok r ≡ read_number ds
  parsed ds (Ok x) short p plus front =
      let h = parse_plain own {E = E} 32 ds (Ok x) p plus in
      let one : (eqb (length ds) 1 || not (eqb (get_or ds 0 0) 48)) ≡ true =
      ⊎_elim
      (λ l. or_left (eqb (length ds) 1) _ (eq-eqb (length ds) 1 (omega (arith, h.0.1, l))))
      (λ n. or_right (eqb (length ds) 1) _ (ap not (ne_eqb (get_or ds 0 0) 48 n)))
      front in
      ap Some h.1 ∙ sym (cond-true (is_number ds) (Some (read_on 0 ds)) None (and_from (ltb 0 (length ds)) _ (lt-ltb 0 (length ds) h.0.1) (and_from (all_ascii_digits ds) _ h.0.0 one)))
  parsed ds (Err e) short p plus front =
      let h = parse_plain own {E = E} 32 ds (Err e) p plus in
      sym (cond-false (is_number ds) (Some (read_on 0 ds)) None (false_from_ne_true (is_number ds) (λ t.
      let a = and_parts (ltb 0 (length ds)) _ t in
      let d = (and_parts (all_ascii_digits ds) _ a.1).0 in
      h (d, ltb-true 0 (length ds) a.0, omega (arith, digits_value_short own ds 9 d short)))))

-- digits are a `str`
pub not_utf8 : (ds : List ℕ) → (IsUtf8 ds → ⊥) → read_number ds ≡ None
not_utf8 ds n =
    cond-false (is_number ds) (Some (read_on 0 ds)) None (false_from_ne_true (is_number ds) (λ t.
    let d = (and_parts (all_ascii_digits ds) _ (and_parts (ltb 0 (length ds)) _ t).1).0 in
    n (IsUtf8-from_ascii ds (IsAscii-from_digits ds (own.to ds d)))))

-- the first digit is no space and no minus
first_digit : (ds : List ℕ) → 0 < length ds → all_ascii_digits ds ≡ true → 48 ≤ get_or ds 0 0
first_digit [] some d = absurd (omega arith)
first_digit (c ∷ cs) some d =
    let h = (and_parts (is_ascii_digit c) (all_ascii_digits cs) d).0 in search (rules, h)

pub no_minus : (n : ℕ) → n < 2 ^ 64 → eqb (get_or (decimal n) 0 0) 45 ≡ false
no_minus n f = ne_eqb (get_or (decimal n) 0 0) 45 (omega (arith, first_digit (decimal n) (decimal_nonempty n f) (digits_decimal own n f)))

bare_digits : (ds : List ℕ) → 48 ≤ get_or ds 0 0 → unspaced ds ≡ ds
bare_digits [] d = refl
bare_digits (c ∷ cs) d = unspaced_step c cs ∙ cond-false (eqb c 32) (unspaced cs) (c ∷ cs) (ne_eqb c 32 (omega arith))

pub bare_number : (n : ℕ) → n < 2 ^ 64 → unspaced (decimal n) ≡ decimal n
bare_number n f = bare_digits (decimal n) (first_digit (decimal n) (decimal_nonempty n f) (digits_decimal own n f))
