-- What judging says where it finds a message.
use Rattle.std.proofs.Common.{◌≡◌, ℕ, List, Some, None, sym, ◌∙◌, ⊎_elim}
use Rattle.std.specs.Str.{bytes_eq}
use Rattle.std.proofs.lemmas.Slice.Eq.{bytes_eq-Decides}
use Rattle.std.proofs.lemmas.Bool.{cases_Bool, cond-true, cond-false}
use Rattle.mode.specs.Opening.{judged}
use Rattle.mode.specs.Padding.{unpadded}

pub judged-some : (B ν α : ℕ) (expected T p M : List ℕ) → judged B ν α expected T p ≡ Some M → (expected ≡ T) × (unpadded B ν α p ≡ Some M)
judged-some B ν α expected T p M e =
    ⊎_elim
    (λ t. ((bytes_eq-Decides expected T).0 t, sym (cond-true (bytes_eq expected T) (unpadded B ν α p) None t) ∙ e))
    (λ t. let none : None ≡ Some M = sym (cond-false (bytes_eq expected T) (unpadded B ν α p) None t) ∙ e in cc)
    (cases_Bool (bytes_eq expected T))
