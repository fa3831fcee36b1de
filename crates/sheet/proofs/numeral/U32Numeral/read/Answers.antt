use Rattle.std.proofs.Common.{◌≡◌, ◌≤◌, ◌≢◌, ◌⊎◌, length, get_or, ◌∙◌, arith, rules}
use Rattle.std.proofs.lemmas.Bool.Decides.{nat_tests}
use Rattle.sheet.proofs.Numbers.{parsed, not_utf8}
use Rattle.sheet.proofs.numeral.U32Numeral.read.Goals as goal

pub returns-in_err-ok : goal.returns-in_err-ok
returns-in_err-ok c = search (rules, not_utf8 c.args.digits.now)

pub returns : goal.returns
returns c =
    let ds = c.args.digits.now in
    let same : c.in_ok-ok.field-0.now ≡ ds = search rules in
    let plus : get_or ds 0 0 ≢ 43 = grind (arith, nat_tests, c.if-digits-lt1.branch) in
    let front : length ds ≤ 1 ⊎ get_or ds 0 0 ≢ 48 = grind (arith, nat_tests, c.if-digits-lt1.branch) in
    c.ok-2.ensures.value ∙ parsed ds c.parse.result c.requires (rw same at c.parse.ensures.value.0) plus front
