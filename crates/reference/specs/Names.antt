-- The mixers by name, and by mark.
use Rattle.std.specs.Prelude.{◌≡◌, ◌≢◌, ℕ, List, Result, MatchResult, codes}
use Rattle.reference.specs.declared.kind.Kind.{Kind}
use Rattle.reference.specs.declared.kind.Kind.TheVariants.{Narrow, Wide, Exchange}
use Rattle.reference.specs.declared.kind.UnknownKind.{UnknownKind}

abbrev pub name_of : Kind → List ℕ
name_of Narrow = codes "narrow"
name_of Wide = codes "wide"
name_of Exchange = codes "exchange"

-- the byte of what is sealed that tells the mixer
abbrev pub mark_of : Kind → ℕ
mark_of Narrow = 1
mark_of Wide = 2
mark_of Exchange = 3

-- what a text reads as: the mixer whose name it is, if it is one's
abbrev pub Reads : List ℕ → Result Kind UnknownKind → Type 0
Reads text r = MatchResult r (λ kind. text ≡ name_of kind) (λ e. (kind : Kind) → text ≢ name_of kind)

abbrev pub unknown_words : List ℕ
unknown_words = codes "a line names no mixer"
