-- The codes of docs/REFUSALS.md.
use Rattle.std.specs.Prelude.{ℕ}
use Rattle.reference.specs.declared.refusal.Failure.{Failure}
use Rattle.reference.specs.declared.refusal.Failure.TheVariants.{Refused, Memory}
use Rattle.reference.specs.declared.refusal.Refusal.{Refusal}
use Rattle.reference.specs.declared.refusal.Refusal.TheVariants.{KeyLength, NonceTooLong, DataTooLong, MessageTooLong, CipherLength, NotAuthentic}

abbrev pub code_of : Refusal → ℕ
code_of KeyLength = 1
code_of NonceTooLong = 2
code_of DataTooLong = 3
code_of MessageTooLong = 4
code_of CipherLength = 5
code_of NotAuthentic = 7

-- 0 where memory ran out
abbrev pub failure_code : Failure → ℕ
failure_code (Refused refusal) = code_of refusal
failure_code (Memory error) = 0
