-- Opening gives back what was sealed, and nothing else opens.
use Rattle.std.proofs.Common.{◌≡◌, ℕ, ◌+◌, ◌-◌, ◌*◌, ◌/◌, ◌%◌, ◌<◌, ◌≤◌, ◌⊎◌, List, length, replicate, Some, None, Ok, sym, refl, ap, ◌∙◌, subst, inl, inr, div-mul-le_self, arith, length-append}
use native.Mathlib.Nat.{mul-mod_left}
use lib.ListN.{length-replicate}
use Rattle.std.specs.Str.{bytes_eq}
use Rattle.std.proofs.lemmas.Slice.Eq.{bytes_eq-Decides}
use Rattle.std.proofs.lemmas.Bool.{cond-true}
use Rattle.std.proofs.lemmas.Bool.Decides.{nat_tests}
use Rattle.mixers.specs.Blocks.{over}
use Rattle.mixers.specs.Halves.{Halves, halves, Sized, Lawful}
use Rattle.mode.specs.Laws.{Admitted, SealedAs, OpensTo, OpensAgain}
use Rattle.mode.specs.Limits.{data_most, message_most}
use Rattle.mode.specs.Opening.{opened_blocks, opened_tag, judged, opens, open_check, open_checked, message_answer, message_text, answered, left_in}
use Rattle.mode.specs.Padding.{blocks_for, pad_nonce, pad_data, unpadded}
use Rattle.mode.specs.Sealing.{data_state, data_prev, tag_at, message_blocks, cipher_text, cipher_tag, cipher_length}
use Rattle.mode.specs.Steps.{turn, seal_step, open_step, run, run_out, run_state, run_prev}
use Rattle.mixers.proofs.Xor.{length-xor}
use Rattle.mode.proofs.Pads.{length-pad_message, blocks_hold}
use Rattle.mode.proofs.Trips.{round_trip, seal_keeps, open_keeps, Keeps}
use Rattle.mode.proofs.Unpads.{Bounds, bounds, unpads, reads_back}
use Rattle.mode.proofs.Judged.{judged-some}

-- the longest ciphertext
cipher_most : (B m : ℕ) → (B ≡ 16) ⊎ (B ≡ 32) → m ≤ message_most → cipher_length B m ≤ message_most + B
cipher_most B m (inl e) h = let P : ℕ → Type 0 = λ b. cipher_length b m ≤ message_most + b in subst P (sym e) (omega arith)
cipher_most B m (inr e) h = let P : ℕ → Type 0 = λ b. cipher_length b m ≤ message_most + b in subst P (sym e) (omega arith)

-- lengths that opening does not refuse
passes : (B k n a c t room : ℕ) → k ≡ B → n ≤ B → a ≤ data_most → t ≡ B → 0 < c → c % B ≡ 0 → c ≤ message_most + B → c ≤ room → open_check B k n a c t room ≡ Ok tt
passes B k n a c t room ek hn ha et lo whole hi fits = grind (arith, nat_tests)

module _ (f : Halves → Halves) (B mark : ℕ) (law : Lawful B mark f) (K N A : List ℕ) (given : Admitted B K N A) where
  pub within : Bounds B (8 * length N) (8 * length A)
  within = bounds B (length N) (length A) (omega (arith, law.width)) (omega (arith, law.width)) given.nonce given.«data»

  -- the state and the last block after the data are of blocks
  begun : Keeps B (seal_step f) (length (pad_data B A) / B) (halves (pad_nonce B N) K) (pad_nonce B N) (pad_data B A)
  begun =
      let first : length (pad_nonce B N) ≡ B = length-append N (replicate (B - length N) 0) ∙ simp length-replicate (omega (arith, given.nonce)) in
      seal_keeps B f law.sized (length (pad_data B A) / B) (halves (pad_nonce B N) K) (pad_nonce B N) (pad_data B A) (first, given.key) first (div-mul-le_self (length (pad_data B A)) B)

  state_sized : Sized B (data_state f B K N A)
  unfolding data_state
  state_sized = begun.sized

  prev_sized : length (data_prev f B K N A) ≡ B
  unfolding data_prev
  prev_sized = begun.prev_is

  gives : (M : List ℕ) → length M ≤ message_most → opens f B K N A (cipher_text f B K N A M) (cipher_tag f B K N A M) ≡ Some M
  unfolding opens opened_blocks opened_tag cipher_text cipher_tag
  gives M l =
      let P = message_blocks B N A M in
      let k = length P / B in
      let s = data_state f B K N A in
      let p = data_prev f B K N A in
      let C = run_out (seal_step f) B k s p P in
      let kept = seal_keeps B f law.sized k s p P state_sized prev_sized (div-mul-le_self (length P) B) in
      let trip = (round_trip B f law.sized).0 k s p P state_sized prev_sized (div-mul-le_self (length P) B) in
      let T = tag_at f K (run_state (seal_step f) B k s p P) (run_prev (seal_step f) B k s p P) in
      let opened : run (open_step f) B (length C / B) s p C ≡ turn (run_state (seal_step f) B k s p P) (run_prev (seal_step f) B k s p P) P = ap (λ x. run (open_step f) B (x / B) s p C) kept.size ∙ trip in
      ap (λ r. judged B (8 * length N) (8 * length A) (tag_at f K r.state r.prev) T r.block) opened
      ∙ cond-true (bytes_eq T T) (unpadded B (8 * length N) (8 * length A) P) None ((bytes_eq-Decides T T).1 refl)
      ∙ reads_back B (8 * length N) (8 * length A) within P M l refl

  pub only_sealed : (C T M : List ℕ) → length C / B * B ≡ length C → opens f B K N A C T ≡ Some M → SealedAs f B K N A C T M
  unfolding opens opened_blocks opened_tag cipher_text cipher_tag
  only_sealed C T M whole e =
      let k = length C / B in
      let s = data_state f B K N A in
      let p = data_prev f B K N A in
      let P = run_out (open_step f) B k s p C in
      let j = judged-some B (8 * length N) (8 * length A) (tag_at f K (run_state (open_step f) B k s p C) (run_prev (open_step f) B k s p C)) T P M e in
      let u = unpads B (8 * length N) (8 * length A) within P M j.1 in
      let is : message_blocks B N A M ≡ P = u.1 in
      let kept = open_keeps B f law.sized k s p C state_sized prev_sized (div-mul-le_self (length C) B) in
      let trip = (round_trip B f law.sized).1 k s p C state_sized prev_sized (div-mul-le_self (length C) B) in
      let count : length (message_blocks B N A M) / B ≡ k = ap (λ x. length x / B) is ∙ ap (λ x. x / B) kept.size in
      let Q = message_blocks B N A M in
      let q = length Q / B in
      let sealed : run (seal_step f) B q s p Q ≡ turn (run_state (open_step f) B k s p C) (run_prev (open_step f) B k s p C) C = ap (λ x. run (seal_step f) B x s p Q) count ∙ ap (run (seal_step f) B k s p) is ∙ trip in
      record {
        limit = u.0;
        cipher = sym (ap (λ r. r.block) sealed);
        tag = sym (ap (λ r. tag_at f K r.state r.prev) sealed ∙ j.0);
      }

  -- how long C, T and the blocks under C are
  sealing_keeps : (M : List ℕ) → Keeps B (seal_step f) (length (message_blocks B N A M) / B) (data_state f B K N A) (data_prev f B K N A) (message_blocks B N A M)
  sealing_keeps M = seal_keeps B f law.sized (length (message_blocks B N A M) / B) (data_state f B K N A) (data_prev f B K N A) (message_blocks B N A M) state_sized prev_sized (div-mul-le_self (length (message_blocks B N A M)) B)

  pub length-cipher : (M : List ℕ) → length (cipher_text f B K N A M) ≡ cipher_length B (length M)
  unfolding cipher_text
  length-cipher M = (sealing_keeps M).size ∙ length-pad_message B (8 * length N) (8 * length A) M within.some

  pub length-tag : (M : List ℕ) → length (cipher_tag f B K N A M) ≡ B
  unfolding cipher_tag
  length-tag M =
      let kept = sealing_keeps M in
      length-xor B _ K (length-xor B _ _ (law.sized _ kept.sized).1 kept.prev_is) given.key

  pub length-opened : (C : List ℕ) → length (opened_blocks f B K N A C) ≡ length C
  unfolding opened_blocks
  length-opened C = (open_keeps B f law.sized (length C / B) (data_state f B K N A) (data_prev f B K N A) C state_sized prev_sized (div-mul-le_self (length C) B)).size

  -- what is sealed from M opens to M, and only to M
  gives_back : (C T M : List ℕ) → SealedAs f B K N A C T M → opens f B K N A C T ≡ Some M
  gives_back C T M s = ap (λ x. opens f B K N A x T) s.cipher ∙ ap (opens f B K N A (cipher_text f B K N A M)) s.tag ∙ gives M s.limit

  pub sealed_opens : (C T M : List ℕ) → SealedAs f B K N A C T M → OpensTo f B K N A C T M
  sealed_opens C T M s xs room =
      let size : length C ≡ cipher_length B (length M) = ap length s.cipher ∙ length-cipher M in
      let tag-size : length T ≡ B = ap length s.tag ∙ length-tag M in
      let more = (blocks_hold B (length M + 13) within.some).0 in
      let whole : length C % B ≡ 0 = ap (λ x. x % B) size ∙ mul-mod_left (blocks_for B (length M + 13)) B in
      let high : length C ≤ message_most + B = omega (arith, size, cipher_most B (length M) law.width s.limit) in
      let ok : open_checked B K N A C T xs ≡ Ok tt = passes B (length K) (length N) (length A) (length C) (length T) (length xs) given.key given.nonce given.«data» tag-size (omega (arith, more, size)) whole high room in
      let m : opens f B K N A C T ≡ Some M = gives_back C T M s in (
        ap (λ k. answered k (opens f B K N A C T)) ok ∙ ap message_answer m,
        ap (λ k. left_in k (length C) (opens f B K N A C T) xs) ok ∙ ap (λ y. over (message_text (length C) y) xs) m,
      )

  pub opens-again : (M : List ℕ) (lengths : ℕ × ℕ) → length M ≤ message_most → lengths.0 ≡ cipher_length B (length M) → lengths.1 ≡ cipher_length B (length M) + B → OpensAgain f B K N A M lengths
  opens-again M lengths l first second =
      let C = cipher_text f B K N A M in
      let T = cipher_tag f B K N A M in
      let sealed : SealedAs f B K N A C T M = record { limit = l; cipher = refl; tag = refl } in
      record {
        cipher = first ∙ sym (length-cipher M);
        both = second ∙ sym (length-append C T ∙ ap (λ k. k + length T) (length-cipher M) ∙ ap (λ k. cipher_length B (length M) + k) (length-tag M));
        gives_back = sealed_opens C T M sealed;
        alone = λ L s. let same : Some L ≡ Some M = sym (gives_back C T L s) ∙ gives M l in cc;
      }
