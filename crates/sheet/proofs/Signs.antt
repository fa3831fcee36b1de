-- Numbers that may be below zero, and what is written for them: columns of trims are one to one by it, in `OneColumn`.
use Rattle.std.proofs.Common.{◌≡◌, ℕ, zero, suc, ◌^◌, ◌<◌, ◌≤◌, eqb, List, [], ◌∷◌, length, get_or, drop, ℤ, pos, negsuc, Some, None, Option, option_map, option_and_then, decimal, sym, refl, ap, ◌∙◌, ⊎_elim, arith, length-drop}
use lib.Signed.{mag}
use Rattle.std.specs.Fmt.{signed_decimal}
use Rattle.std.proofs.lemmas.Bool.{cond-true, cond-false, cases_Bool, eqb-true, ne_eqb}
use Rattle.sheet.specs.Columns.{unspaced, read_number, read_signed, below_zero}
use Rattle.sheet.proofs.Numbers.{no_minus, bare_number, number-back, number-once}

pub bare_signed : (z : ℤ) → mag z < 2 ^ 63 → unspaced (signed_decimal z) ≡ signed_decimal z
bare_signed (pos n) f = bare_number n (omega arith)
bare_signed (negsuc n) f = refl

below-some : (n : ℕ) → below_zero (suc n) ≡ Some (negsuc n)
below-some n = cond-false (eqb (suc n) 0) None (Some (negsuc n)) (ne_eqb (suc n) 0 (omega arith))

pub signed-back : (z : ℤ) → mag z < 2 ^ 63 → read_signed (signed_decimal z) ≡ Some z
signed-back (pos n) f =
    cond-false (eqb (get_or (decimal n) 0 0) 45) _ _ (no_minus n (omega arith)) ∙ ap (option_map pos) (number-back n (omega arith))
signed-back (negsuc n) f = ap (option_and_then below_zero) (number-back (suc n) (omega arith)) ∙ below-some n

front-minus : (ds : List ℕ) → get_or ds 0 0 ≡ 45 → ds ≡ 45 ∷ drop 1 ds
front-minus [] e = absurd (omega arith)
front-minus (c ∷ cs) e = ap (λ x. x ∷ cs) e

above : (o : Option ℕ) (z : ℤ) → option_map pos o ≡ Some z → (n : ℕ) × (o ≡ Some n) × (signed_decimal z ≡ decimal n)
above (Some n) z e = let s : pos n ≡ z = cc in (n, refl, ap signed_decimal (sym s))
above None z e = cc

below : (o : Option ℕ) (z : ℤ) → option_and_then below_zero o ≡ Some z → (n : ℕ) × (o ≡ Some n) × (signed_decimal z ≡ 45 ∷ decimal n)
below (Some zero) z e = cc
below (Some (suc n)) z e = let s : negsuc n ≡ z = cc (below-some n) in (suc n, refl, ap signed_decimal (sym s))
below None z e = cc

pub signed-once : (ds : List ℕ) (z : ℤ) → length ds ≤ 9 → read_signed ds ≡ Some z → ds ≡ signed_decimal z
signed-once ds z short r =
    ⊎_elim
    (λ e.
    let t = below (read_number (drop 1 ds)) z (sym (cond-true (eqb (get_or ds 0 0) 45) _ _ e) ∙ r) in
    front-minus ds (eqb-true (get_or ds 0 0) 45 e)
    ∙ ap (λ x. 45 ∷ x) (number-once (drop 1 ds) t.0 (omega (arith, length-drop 1 ds)) t.1).1
    ∙ sym t.2)
    (λ e.
    let t = above (read_number ds) z (sym (cond-false (eqb (get_or ds 0 0) 45) _ _ e) ∙ r) in
    (number-once ds t.0 short t.1).1 ∙ sym t.2)
    (cases_Bool (eqb (get_or ds 0 0) 45))
