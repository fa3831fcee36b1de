use Rattle.std.proofs.Common.{◌≡◌, sym, refl, ◌∙◌, rules}
use Rattle.std.specs.List.{fold, zip}
use Rattle.std.proofs.lemmas.Bool.{eqb-true, eq-eqb}
use Rattle.std.proofs.lemmas.Bool.Decides.{same_from_decides}
use Rattle.std.proofs.lemmas.Iterator.{YieldsList-from_slice, YieldsList-from_zip}
use Rattle.std.proofs.lemmas.Iterator.Consumers.{YieldsList-at, fold_from_yields_List}
use Rattle.std.proofs.lemmas.Slice.Eq.{bytes_eq-Decides}
use Rattle.mode.proofs.Same.{gathered, alike}
use Rattle.mode.proofs.bytes.same.Goals as goal

pub returns : goal.returns
returns c =
    let a = c.args.a.now in
    let b = c.args.b.now in
    let e : c.fold-differences.result ≡ fold gathered 0 (zip a b) =
    fold_from_yields_List _ gathered 0 c.fold-differences.result c.fold-differences.ensures.ran
    (YieldsList-from_zip (YieldsList-at c.zip.ensures.first (YieldsList-from_slice a (cc))) (YieldsList-from_slice b (cc)))
    (λ d x r q k. search rules) in
    let both = alike a b 0 c.requires in
    same_from_decides _ _ (λ z. (both.0 (sym e ∙ eqb-true _ _ z)).1, λ z. eq-eqb _ _ (e ∙ both.1 refl z)) (bytes_eq-Decides a b)
