-- What both calls judge first.
use Rattle.std.proofs.Common.{◌≡◌, ℕ, ◌+◌, ◌≤◌, List, length, Ok, Result, sym, ap, ◌∙◌, arith}
use Rattle.std.proofs.lemmas.Bool.Decides.{nat_tests}
use Rattle.mode.specs.Faults.{unless, admit}
use Rattle.mode.specs.Laws.{Admitted}
use Rattle.mode.specs.Limits.{data_most, message_most}
use Rattle.mode.specs.Sealing.{cipher_length, seal_answer}
use Rattle.std.specs.Prelude.{nat_le}
use Rattle.mode.specs.declared.fault.Fault.{Fault}
use Rattle.mode.specs.declared.fault.Fault.TheVariants.{MessageTooLong, BufferTooShort}
use Rattle.mode.specs.declared.setting.Admitted.{Admitted as AdmittedSetting}
use Rattle.mode.specs.declared.setting.Setting.{Setting}

-- what is admitted is judged by what comes after
pub passes_on : {X : Type 0} (B k n a : ℕ) (after : Result X Fault) → k ≡ B → n ≤ B → a ≤ data_most → admit B k n a after ≡ after
passes_on B k n a after hk hn ha = grind (arith, nat_tests)

-- what a setting that is admitted says of its parts
pub admitted_by : (B : ℕ) (u : AdmittedSetting B) (s : Setting) → u.setting ≡ s → Admitted B s.key.now s.nonce.now s.ad.now
admitted_by B u s e = record {
  key = ap (λ v. length v.key.now) (sym e) ∙ u.key;
  nonce = omega (arith, u.nonce, ap (λ v. length v.nonce.now) e);
  «data» = omega (arith, u.ad, ap (λ v. length v.ad.now) e);
}

-- what sealing answers where nothing is refused
pub sealable : (B : ℕ) (K N A M xs : List ℕ) (n : ℕ) → Admitted B K N A → length M ≤ message_most → n ≡ cipher_length B (length M) → cipher_length B (length M) + B ≤ length xs → Ok (n, n + B) ≡ seal_answer B K N A M xs
sealable B K N A M xs n admitted limit size room = sym (passes_on B (length K) (length N) (length A) _ admitted.key admitted.nonce admitted.«data» ∙ rest (cipher_length B (length M)) size room) where
  rest : (c : ℕ) → n ≡ c → c + B ≤ length xs → unless {X = ℕ × ℕ} (nat_le (length M) message_most) MessageTooLong (unless (nat_le (c + B) (length xs)) BufferTooShort (Ok (c, c + B))) ≡ Ok (n, n + B)
  rest c e h = grind (arith, nat_tests)
