-- What opening gives for key K, nonce N, associated data A, ciphertext C and tag T, under the function f of a mixer with blocks of B bytes.
use Rattle.std.specs.Prelude.{ℕ, ◌+◌, ◌-◌, ◌*◌, ◌%◌, cond, ◌&&◌, List, ◌++◌, length, replicate, Some, None, Ok, Err, Option, Result, ◌==◌, nat_le, nat_lt}
use Rattle.std.specs.Str.{bytes_eq}
use Rattle.mixers.specs.Blocks.{over}
use Rattle.mixers.specs.Halves.{Halves}
use Rattle.mode.specs.Faults.{unless, admit}
use Rattle.mode.specs.Limits.{message_most}
use Rattle.mode.specs.Padding.{unpadded}
use Rattle.mode.specs.Sealing.{data_state, data_prev, tag_at}
use Rattle.mode.specs.Steps.{open_step, all_out, all_state, all_prev}
use Rattle.mode.specs.declared.fault.Fault.{Fault}
use Rattle.mode.specs.declared.fault.Fault.TheVariants.{CipherLength, BufferTooShort, NotAuthentic}

-- the blocks under C
unfoldable pub opened_blocks : (Halves → Halves) → ℕ → List ℕ → List ℕ → List ℕ → List ℕ → List ℕ
opened_blocks f B K N A C = all_out (open_step f) B (data_state f B K N A) (data_prev f B K N A) C

-- the tag that C should have
unfoldable pub opened_tag : (Halves → Halves) → ℕ → List ℕ → List ℕ → List ℕ → List ℕ → List ℕ
opened_tag f B K N A C =
    tag_at f K
    (all_state (open_step f) B (data_state f B K N A) (data_prev f B K N A) C)
    (all_prev (open_step f) B (data_state f B K N A) (data_prev f B K N A) C)

-- the message in the blocks p, if T is the expected tag and they are a message's padding
abbrev pub judged : ℕ → ℕ → ℕ → List ℕ → List ℕ → List ℕ → Option (List ℕ)
judged B ν α expected T p = cond (bytes_eq expected T) (unpadded B ν α p) None

-- the message that C and T open to, if any
unfoldable pub opens : (Halves → Halves) → ℕ → List ℕ → List ℕ → List ℕ → List ℕ → List ℕ → Option (List ℕ)
opens f B K N A C T = judged B (8 * length N) (8 * length A) (opened_tag f B K N A C) T (opened_blocks f B K N A C)

-- from the lengths of ciphertext, tag and text buffer: the first refusal, if any
abbrev pub cipher_check : ℕ → ℕ → ℕ → ℕ → Result (Unit {0}) Fault
cipher_check B c t room =
    unless (t == B && (nat_lt 0 c && (c % B == 0 && nat_le c (message_most + B)))) CipherLength (
    unless (nat_le c room) BufferTooShort (
    Ok tt))

-- from lengths alone, of key, nonce and data too
abbrev pub open_check : ℕ → ℕ → ℕ → ℕ → ℕ → ℕ → ℕ → Result (Unit {0}) Fault
open_check B k n a c t room = admit B k n a (cipher_check B c t room)

-- the same, where the text buffer holds xs
abbrev pub open_checked : ℕ → List ℕ → List ℕ → List ℕ → List ℕ → List ℕ → List ℕ → Result (Unit {0}) Fault
open_checked B K N A C T xs = open_check B (length K) (length N) (length A) (length C) (length T) (length xs)

-- the length of the message, if there is one
abbrev pub message_answer : Option (List ℕ) → Result ℕ Fault
message_answer (Some M) = Ok (length M)
message_answer None = Err NotAuthentic

-- what is written over a ciphertext of c bytes: the message, and zeros up to c
abbrev pub message_text : ℕ → Option (List ℕ) → List ℕ
message_text c (Some M) = M ++ replicate (c - length M) 0
message_text c None = replicate c 0

-- answer and buffer, which held xs, from what the lengths say and the message
abbrev pub answered : Result (Unit {0}) Fault → Option (List ℕ) → Result ℕ Fault
answered (Ok u) m = message_answer m
answered (Err e) m = Err e

abbrev pub left_in : Result (Unit {0}) Fault → ℕ → Option (List ℕ) → List ℕ → List ℕ
left_in (Ok u) c m xs = over (message_text c m) xs
left_in (Err e) c m xs = xs

-- the answer, where the text buffer holds xs
abbrev pub open_answer : (Halves → Halves) → ℕ → List ℕ → List ℕ → List ℕ → List ℕ → List ℕ → List ℕ → Result ℕ Fault
open_answer f B K N A C T xs = answered (open_checked B K N A C T xs) (opens f B K N A C T)

-- what the text buffer, which held xs, then holds
abbrev pub open_leaves : (Halves → Halves) → ℕ → List ℕ → List ℕ → List ℕ → List ℕ → List ℕ → List ℕ → List ℕ
open_leaves f B K N A C T xs = left_in (open_checked B K N A C T xs) (length C) (opens f B K N A C T) xs
