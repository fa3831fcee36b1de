-- The code and the words of each refusal, and how refusals follow one another.
use Rattle.std.specs.Prelude.{ℕ, Bool, cond, List, Ok, Err, Result, codes, ◌==◌, nat_le}
use Rattle.mode.specs.Limits.{data_most}
use Rattle.mode.specs.declared.fault.Fault.{Fault}
use Rattle.mode.specs.declared.fault.Fault.TheVariants.{KeyLength, NonceTooLong, DataTooLong, MessageTooLong, CipherLength, BufferTooShort, NotAuthentic}

abbrev pub code_of : Fault → ℕ
code_of KeyLength = 1
code_of NonceTooLong = 2
code_of DataTooLong = 3
code_of MessageTooLong = 4
code_of CipherLength = 5
code_of BufferTooShort = 6
code_of NotAuthentic = 7

-- the words that stand for each refusal where it is printed
abbrev pub text_of : Fault → List ℕ
text_of KeyLength = codes "the key is not one block long"
text_of NonceTooLong = codes "the nonce is longer than one block"
text_of DataTooLong = codes "the associated data is longer than 4,096 bytes"
text_of MessageTooLong = codes "the message is longer than 65,536 bytes"
text_of CipherLength = codes "ciphertext or tag has a length that no sealing gives"
text_of BufferTooShort = codes "the buffer to write into is too short"
text_of NotAuthentic = codes "tag or padding is wrong"

-- `after` where the test holds, and else the refusal e
abbrev pub unless : {X : Type 0} → Bool → Fault → Result X Fault → Result X Fault
unless test e after = cond test after (Err e)

-- what both calls judge first, from the lengths of key, nonce and data, and then `after`
abbrev pub admit : {X : Type 0} → ℕ → ℕ → ℕ → ℕ → Result X Fault → Result X Fault
admit B k n a after =
    unless (k == B) KeyLength (
    unless (nat_le n B) NonceTooLong (
    unless (nat_le a data_most) DataTooLong after))

-- the first refusal from these lengths alone, if any
abbrev pub admission : ℕ → ℕ → ℕ → ℕ → Result (Unit {0}) Fault
admission B k n a = admit B k n a (Ok tt)
