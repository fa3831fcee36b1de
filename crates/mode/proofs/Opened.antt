-- What opening answers and leaves in the text buffer.
use Rattle.std.proofs.Common.{◌≡◌, ℕ, ◌+◌, ◌-◌, ◌*◌, ◌/◌, ◌%◌, ◌≤◌, List, ◌++◌, length, take, drop, replicate, Some, None, Ok, Err, IfOk, Option, Result, sym, refl, ap, ◌∙◌, subst, append_assoc, drop-drop, arith}
use native.Mathlib.Nat.{mod-add-div'}
use borrow.Rule.Slice.PartMut.{put_mid}
use Rattle.std.proofs.lemmas.List.{take_at, drop_all, append-nil}
use Rattle.std.proofs.lemmas.Bool.Decides.{nat_tests}
use Rattle.mixers.specs.Halves.{Halves, Lawful}
use Rattle.mode.specs.Laws.{Admitted, SealedAs, OpensSealed}
use Rattle.mode.specs.Limits.{data_most}
use Rattle.mode.specs.Opening.{opened_blocks, opened_tag, judged, opens, open_check, open_checked, message_answer, answered, left_in, open_answer, open_leaves}
use Rattle.mode.specs.Padding.{pad_message}
use Rattle.mode.specs.declared.fault.Fault.{Fault}
use Rattle.mode.proofs.Faith.{within, sealed_opens, only_sealed}
use Rattle.mode.proofs.Judged.{judged-some}
use Rattle.mode.proofs.Unpads.{unpads, message_is}

pub answer_err : (o : Option (List ℕ)) (x : Fault) → message_answer o ≡ Err x → o ≡ None
answer_err None x e = refl
answer_err (Some M) x e = cc

pub answer_ok : (o : Option (List ℕ)) (n : ℕ) → message_answer o ≡ Ok n → (M : List ℕ) × ((o ≡ Some M) × (length M ≡ n))
answer_ok None n e = cc
answer_ok (Some M) n e = (M, (refl, cc))

-- what judging says under the tag that C should have and the blocks under C
pub judged-opens : (f : Halves → Halves) (B : ℕ) (K N A C T tag text : List ℕ) → tag ≡ opened_tag f B K N A C → text ≡ opened_blocks f B K N A C → judged B (8 * length N) (8 * length A) tag T text ≡ opens f B K N A C T
unfolding opens
judged-opens f B K N A C T tag text et ep = rw (et, ep)

-- where the message M is found
module _ (f : Halves → Halves) (B mark : ℕ) (law : Lawful B mark f) (K N A : List ℕ) (admitted : Admitted B K N A) (C T M : List ℕ) (found : opens f B K N A C T ≡ Some M) where
  padded : pad_message B (8 * length N) (8 * length A) M ≡ opened_blocks f B K N A C
  unfolding opens
  padded = (unpads B (8 * length N) (8 * length A) (within f B mark law K N A admitted) (opened_blocks f B K N A C) M (judged-some B (8 * length N) (8 * length A) (opened_tag f B K N A C) T (opened_blocks f B K N A C) M found).1).1

  -- it stands at the front of the blocks
  pub front : take (length M) (opened_blocks f B K N A C) ≡ M
  front = message_is B (8 * length N) (8 * length A) (within f B mark law K N A admitted) M (opened_blocks f B K N A C) padded

-- what it means that nothing is refused from lengths alone
pub record Passed (B k n a c t room : ℕ) : Type 0 where
  pub key : k ≡ B
  pub nonce : n ≤ B
  pub «data» : a ≤ data_most
  pub tag : t ≡ B
  pub whole : c % B ≡ 0
  pub fits : c ≤ room

pub passed : (B k n a c t room : ℕ) (u : Unit {0}) → Ok u ≡ open_check B k n a c t room → Passed B k n a c t room
passed B k n a c t room u e = record {
  key = grind (arith, nat_tests);
  nonce = grind (arith, nat_tests);
  «data» = grind (arith, nat_tests);
  tag = grind (arith, nat_tests);
  whole = grind (arith, nat_tests);
  fits = grind (arith, nat_tests);
}

-- what opening promises follows from what it answers and leaves
module _ (f : Halves → Halves) (B mark : ℕ) (law : Lawful B mark f) (K N A C T xs : List ℕ) where
  only_sealing : (k : Result (Unit {0}) Fault) (m : Option (List ℕ)) (r : Result ℕ Fault) (text : List ℕ) → k ≡ open_checked B K N A C T xs → m ≡ opens f B K N A C T
      → r ≡ answered k m → text ≡ left_in k (length C) m xs → IfOk r (λ n. SealedAs f B K N A C T (take n text))
  only_sealing (Err e) m r text ek em er et = rw er tt
  only_sealing (Ok u) None r text ek em er et = rw er tt
  only_sealing (Ok u) (Some M) r text ek em er et =
      let p = passed B (length K) (length N) (length A) (length C) (length T) (length xs) u ek in
      let admitted : Admitted B K N A = record { key = p.key; nonce = p.nonce; «data» = p.«data» } in
      let zs = replicate (length C - length M) 0 in
      let here : take (length M) text ≡ M = ap (take (length M)) (et ∙ append_assoc M zs (drop (length (M ++ zs)) xs)) ∙ take_at M (zs ++ drop (length (M ++ zs)) xs) (length M) refl in
      let blocks : length C / B * B ≡ length C = omega (arith, mod-add-div' (length C) B, p.whole) in
      rw er (subst (SealedAs f B K N A C T) (sym here) (only_sealed f B mark law K N A admitted C T M blocks (sym em)))

  pub opens-sealed : (r : Result ℕ Fault) (text : List ℕ) → r ≡ open_answer f B K N A C T xs → text ≡ open_leaves f B K N A C T xs → OpensSealed f B K N A C T xs r text
  opens-sealed r text er et = record {
    only = only_sealing (open_checked B K N A C T xs) (opens f B K N A C T) r text refl refl er et;
    all = λ admitted room M s. er ∙ (sealed_opens f B mark law K N A admitted C T M s xs room).0;
  }

-- what a write to the part `a..e` leaves
put_part : (a e : ℕ) (xs ys : List ℕ) → a ≤ e → put_mid a (e - a) xs ys ≡ take a xs ++ (ys ++ drop e xs)
put_part a e xs ys h =
    let at : a + (e - a) ≡ e = omega arith in
    ap (λ z. take a xs ++ (ys ++ z)) (drop-drop (e - a) a xs ∙ ap (λ k. drop k xs) at)

-- a message at the front of the blocks P, and zeros written behind it
pub zeros_behind : (M P zs : List ℕ) (n k : ℕ) → length P ≡ n → length M ≡ k → take k P ≡ M → k ≤ n → zs ≡ replicate (n - k) 0 → put_mid k (length P - k) P zs ≡ M ++ replicate (n - length M) 0
zeros_behind M P zs n k lp lm here h ez =
    put_part k (length P) P zs (omega arith)
    ∙ ap (λ x. x ++ (zs ++ drop (length P) P)) here
    ∙ ap (λ x. M ++ (zs ++ x)) (drop_all (length P) P (omega arith))
    ∙ ap (λ x. M ++ x) (append-nil zs ∙ ez ∙ ap (λ m. replicate (n - m) 0) (sym lm))
