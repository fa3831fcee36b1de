use Rattle.std.proofs.Common.{ℕ, suc, ◌≡◌, ◌+◌, ◌<◌, ◌≤◌, List, [], ◌∷◌, length, get_or, drop, replicate, refl, ap, ◌∙◌, arith, rules}
use Rattle.std.proofs.lemmas.List.{get_or-drop, length-drop}
use Rattle.mode.proofs.padding.reach.Goals as goal

all_zeros : (xs : List ℕ) → ((k : ℕ) → k < length xs → get_or xs k 0 ≡ 0) → xs ≡ replicate (length xs) 0
all_zeros [] h = refl
all_zeros (x ∷ xs) h =
    let first : x ≡ 0 = h 0 (omega arith) in
    let rest : xs ≡ replicate (length xs) 0 = all_zeros xs (λ k l. h (suc k) (omega arith)) in
    cc

pub returns-clause-zeros : goal.returns-clause-zeros
returns-clause-zeros c =
    let xs = c.args.text.now in
    let r = c.map_or.result in
    let h : (k : ℕ) → r ≤ k → k < length xs → get_or xs k 0 ≡ 0 = λ k lo hi. search rules in
    all_zeros (drop r xs) (λ k l. get_or-drop r xs k 0 ∙ h (r + k) (omega arith) (omega (arith, length-drop r xs))) ∙ ap (λ n. replicate n 0) (length-drop r xs)
