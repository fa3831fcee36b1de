-- What sealing gives for key K, nonce N, associated data A and message M, under the function f of a mixer with blocks of B bytes.
use Rattle.std.specs.Prelude.{ℕ, ◌+◌, ◌*◌, List, ◌++◌, length, Ok, Err, Result, nat_le}
use Rattle.words.specs.Bytes.{xor_bytes}
use Rattle.mixers.specs.Blocks.{over}
use Rattle.mixers.specs.Halves.{Halves, halves}
use Rattle.mode.specs.Faults.{unless, admit}
use Rattle.mode.specs.Limits.{message_most, trailer_length}
use Rattle.mode.specs.Padding.{blocks_for, pad_nonce, pad_data, pad_message}
use Rattle.mode.specs.Steps.{seal_step, all_out, all_state, all_prev}
use Rattle.mode.specs.declared.fault.Fault.{Fault}
use Rattle.mode.specs.declared.fault.Fault.TheVariants.{MessageTooLong, BufferTooShort}

-- the state and the last block once nonce and data are in; the chain begins at x' = m₀ and x = K
unfoldable pub data_state : (Halves → Halves) → ℕ → List ℕ → List ℕ → List ℕ → Halves
data_state f B K N A = all_state (seal_step f) B (halves (pad_nonce B N) K) (pad_nonce B N) (pad_data B A)

unfoldable pub data_prev : (Halves → Halves) → ℕ → List ℕ → List ℕ → List ℕ → List ℕ
data_prev f B K N A = all_prev (seal_step f) B (halves (pad_nonce B N) K) (pad_nonce B N) (pad_data B A)

-- the tag at the state s after the last block m: with y'‖y = f s, it is y ⊕ m ⊕ K
abbrev pub tag_at : (Halves → Halves) → List ℕ → Halves → List ℕ → List ℕ
tag_at f K s m = xor_bytes (xor_bytes (f s).lower m) K

-- the padded message
abbrev pub message_blocks : ℕ → List ℕ → List ℕ → List ℕ → List ℕ
message_blocks B N A M = pad_message B (8 * length N) (8 * length A) M

-- C
unfoldable pub cipher_text : (Halves → Halves) → ℕ → List ℕ → List ℕ → List ℕ → List ℕ → List ℕ
cipher_text f B K N A M = all_out (seal_step f) B (data_state f B K N A) (data_prev f B K N A) (message_blocks B N A M)

-- T
unfoldable pub cipher_tag : (Halves → Halves) → ℕ → List ℕ → List ℕ → List ℕ → List ℕ → List ℕ
cipher_tag f B K N A M =
    tag_at f K
    (all_state (seal_step f) B (data_state f B K N A) (data_prev f B K N A) (message_blocks B N A M))
    (all_prev (seal_step f) B (data_state f B K N A) (data_prev f B K N A) (message_blocks B N A M))

-- the length of C for a message of m bytes
abbrev pub cipher_length : ℕ → ℕ → ℕ
cipher_length B m = blocks_for B (m + trailer_length) * B

-- from lengths alone, of key, nonce, data, message and output buffer: the first refusal, or the lengths of C and of C with T
abbrev pub seal_lengths : ℕ → ℕ → ℕ → ℕ → ℕ → ℕ → Result (ℕ × ℕ) Fault
seal_lengths B k n a m room =
    admit B k n a (
    unless (nat_le m message_most) MessageTooLong (
    unless (nat_le (cipher_length B m + B) room) BufferTooShort (
    Ok (cipher_length B m, cipher_length B m + B))))

-- the answer, where the output buffer holds xs
abbrev pub seal_answer : ℕ → List ℕ → List ℕ → List ℕ → List ℕ → List ℕ → Result (ℕ × ℕ) Fault
seal_answer B K N A M xs = seal_lengths B (length K) (length N) (length A) (length M) (length xs)

-- the buffer, which held xs, after an answer: ys at its front, or as it was
abbrev pub written : {X : Type 0} → Result X Fault → List ℕ → List ℕ → List ℕ
written (Ok x) ys xs = over ys xs
written (Err e) ys xs = xs

-- what the output buffer, which held xs, then holds: C and T at its front
abbrev pub seal_leaves : (Halves → Halves) → ℕ → List ℕ → List ℕ → List ℕ → List ℕ → List ℕ → List ℕ
seal_leaves f B K N A M xs = written (seal_answer B K N A M xs) (cipher_text f B K N A M ++ cipher_tag f B K N A M) xs
