-- What sealing answers, and what stands in a buffer after two writes.
use Rattle.std.proofs.Common.{◌≡◌, ℕ, ◌+◌, ◌≤◌, List, ◌++◌, length, drop, Ok, sym, ap, ◌∙◌, append_assoc, arith, length-append, drop-drop}
use Rattle.std.proofs.lemmas.Bool.Decides.{nat_tests}
use Rattle.mixers.specs.Blocks.{over}
use Rattle.mode.specs.Laws.{Admitted}
use Rattle.mode.specs.Limits.{message_most}
use Rattle.mode.specs.Sealing.{cipher_length, seal_answer}

-- what an answer that is no refusal says
pub record Sealable (B : ℕ) (K N A M : List ℕ) (lengths : ℕ × ℕ) : Type 0 where
  pub admitted : Admitted B K N A
  pub limit : length M ≤ message_most
  pub cipher : lengths.0 ≡ cipher_length B (length M)
  pub both : lengths.1 ≡ cipher_length B (length M) + B

pub sealable : (B : ℕ) (K N A M xs : List ℕ) (c all : ℕ) → Ok (c, all) ≡ seal_answer B K N A M xs → Sealable B K N A M (c, all)
sealable B K N A M xs c all e = record {
  admitted = record { key = grind (arith, nat_tests); nonce = grind (arith, nat_tests); «data» = grind (arith, nat_tests) };
  limit = grind (arith, nat_tests);
  cipher = grind (arith, nat_tests);
  both = grind (arith, nat_tests);
}

-- C is written over the front of o, and T over the front of what follows
pub written_after : (C T o rest : List ℕ) (n k : ℕ) → length C ≡ n → length T ≡ k → rest ≡ drop n o → C ++ (T ++ drop k rest) ≡ over (C ++ T) o
written_after C T o rest n k lc lt er =
    let both : k + n ≡ length (C ++ T) = omega (arith, length-append C T, lc, lt) in
    ap (λ x. C ++ (T ++ drop k x)) er ∙ ap (λ x. C ++ (T ++ x)) (drop-drop k n o ∙ ap (λ m. drop m o) (omega (arith, both))) ∙ sym (append_assoc C T (drop (length (C ++ T)) o))
