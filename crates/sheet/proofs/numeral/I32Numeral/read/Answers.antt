use Rattle.std.proofs.Common.{◌≡◌, ◌^◌, ◌<◌, drop, pos, neg_ℤ, Some, sym, ap, ◌∙◌, arith, rules, w32, to_z, of_z, ◌-ℤ◌}
use Rattle.std.proofs.lemmas.Int.{ints}
use Rattle.std.proofs.lemmas.List.{take_rest, length-drop}
use Rattle.sheet.specs.Columns.{read_number}
use Rattle.sheet.proofs.Numbers.{number-once}
use Rattle.sheet.proofs.numeral.I32Numeral.read.Goals as goal

plain_small : (c : goal.In_ok-read) → c.in_ok-read.field-0 < 10 ^ 9
plain_small c = (number-once c.args.text.now c.in_ok-read.field-0 c.requires (sym c.read.ensures ∙ c.in_ok-read.was)).0

-- what stands behind a minus
minus : (c : goal.In_default-2) → (read_number (drop 1 c.args.text.now) ≡ Some c.in_ok-n.n) × (c.in_ok-n.n < 10 ^ 9)
minus c =
    let ds = drop 1 c.args.text.now in
    let e : read_number ds ≡ Some c.in_ok-n.n = ap read_number (sym (take_rest c.args.text.now 1)) ∙ sym c.read-2.ensures ∙ c.in_ok-n.was in
    (e, (number-once ds c.in_ok-n.n (omega (arith, length-drop 1 c.args.text.now)) e).0)

pub overflow_cast-result : goal.overflow_cast-result
overflow_cast-result c = omega (arith, ints, plain_small c)

pub returns-in_default : goal.returns-in_default
returns-in_default c =
    let z : to_z w32 c.in_ok-read.field-0 ≡ pos c.in_ok-read.field-0 = omega (arith, ints, plain_small c) in
    rw z (search rules)

pub overflow_cast-result-in_default-2 : goal.overflow_cast-result-in_default-2
overflow_cast-result-in_default-2 c = omega (arith, ints, (minus c).1)

pub overflow_sub-result : goal.overflow_sub-result
overflow_sub-result c = omega (arith, ints, (minus c).1)

pub returns-in_default-2 : goal.returns-in_default-2
returns-in_default-2 c =
    let n = c.in_ok-n.n in
    let z : to_z w32 (of_z w32 (pos 0 -ℤ to_z w32 n)) ≡ neg_ℤ (pos n) = omega (arith, ints, (minus c).1) in
    ap Some z ∙ rw (minus c).0 (search rules)
