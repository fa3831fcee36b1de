-- The spaces in front of a column.
use Rattle.std.proofs.Common.{◌≡◌, ℕ, ◌+◌, ◌≤◌, Bool, true, false, cond, not, eqb, List, [], ◌∷◌, ◌++◌, length, drop, replicate, Option, sym, refl, ap, ◌∙◌, ⊎_elim, zero, suc, arith, rules, length-append, unwrap_or}
use Rattle.std.specs.List.{position, position_or_len, prefix_len}
use Rattle.std.proofs.lemmas.Bool.{cond-true, cond-false, cases_Bool, eqb-true}
use Rattle.std.proofs.lemmas.Grind.{common_steps}
use Rattle.sheet.specs.Columns.{unspaced}

-- no space
abbrev pub other : ℕ → Bool
other b = not (eqb b 32)

-- byte by byte
go_on : (space : Bool) (c k : ℕ) (cs : List ℕ) → drop (cond space (1 + k) 0) (c ∷ cs) ≡ cond space (drop k cs) (c ∷ cs)
go_on true c k cs = let one : 1 + k ≡ suc k = omega arith in ap (λ j. drop j (c ∷ cs)) one
go_on false c k cs = refl

pub unspaced_step : (c : ℕ) (cs : List ℕ) → unspaced (c ∷ cs) ≡ cond (eqb c 32) (unspaced cs) (c ∷ cs)
unspaced_step c cs = go_on (eqb c 32) c (prefix_len (λ b. eqb b 32) cs) cs

twice_not : (bs : List ℕ) → position_or_len other bs ≡ prefix_len (λ b. eqb b 32) bs
twice_not [] = refl
twice_not (c ∷ cs) = search (rules, twice_not cs)

-- what follows the first byte that is no space
pub unspaced_from : (bs : List ℕ) (r : Option ℕ) → r ≡ position other bs → drop (unwrap_or r (length bs)) bs ≡ unspaced bs
unspaced_from bs r e = grind (arith, common_steps, twice_not bs)

-- how many spaces stand in front
pub spaces_in : (bs : List ℕ) → (k : ℕ) × (bs ≡ replicate k 32 ++ unspaced bs)
spaces_in [] = (0, refl)
spaces_in (c ∷ cs) =
    ⊎_elim
    (λ e.
    let r = spaces_in cs in (
      suc r.0,
      ap (λ x. x ∷ cs) (eqb-true c 32 e) ∙ ap (λ x. 32 ∷ x) r.1 ∙ ap (λ x. 32 ∷ (replicate r.0 32 ++ x)) (sym (unspaced_step c cs ∙ cond-true (eqb c 32) (unspaced cs) (c ∷ cs) e)),
    ))
    (λ e. (0, sym (unspaced_step c cs ∙ cond-false (eqb c 32) (unspaced cs) (c ∷ cs) e)))
    (cases_Bool (eqb c 32))

pub unspaced-short : (bs : List ℕ) → length (unspaced bs) ≤ length bs
unspaced-short bs =
    let s = spaces_in bs in
    omega (arith, ap length s.1, length-append (replicate s.0 32) (unspaced bs))

pub unspaced-spaces : (k : ℕ) (ds : List ℕ) → unspaced (replicate k 32 ++ ds) ≡ unspaced ds
unspaced-spaces zero ds = refl
unspaced-spaces (suc k) ds = unspaced_step 32 (replicate k 32 ++ ds) ∙ unspaced-spaces k ds
