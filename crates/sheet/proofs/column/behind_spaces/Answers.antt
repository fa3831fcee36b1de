use Rattle.std.proofs.Common.{◌≡◌, drop, ap, ◌∙◌, rules, tests}
use Rattle.std.specs.List.{position}
use Rattle.std.proofs.lemmas.List.{take_rest}
use Rattle.std.proofs.lemmas.Iterator.{YieldsList-from_slice}
use Rattle.std.proofs.lemmas.Iterator.Search.{position_from_yields_List}
use Rattle.sheet.proofs.Spaces.{other, unspaced_from}
use Rattle.sheet.proofs.column.behind_spaces.Goals as goal

pub returns : goal.returns
returns c =
    let bs = c.args.bytes.now in
    let r : c.position-from.result ≡ position other bs =
    position_from_yields_List other _ _ c.position-from.result c.position-from.ensures.ran (YieldsList-from_slice bs cc) (λ x b q k. search (rules, tests)) in
    take_rest bs c.unwrap_or.result ∙ ap (λ k. drop k bs) c.unwrap_or.ensures ∙ unspaced_from bs c.position-from.result r
