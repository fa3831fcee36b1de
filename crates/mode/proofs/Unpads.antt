-- A byte string is the padding of one message at message_most, and its end says which.
use Rattle.std.proofs.Common.{◌≡◌, ℕ, zero, suc, ◌+◌, ◌-◌, ◌*◌, ◌/◌, ◌^◌, ◌<◌, ◌≤◌, true, false, cond, eqb, leb, ◌⊎◌, List, ◌++◌, length, get_or, take, drop, replicate, Some, None, Ok, Err, Option, sym, refl, ap, ◌∙◌, inl, inr, ⊎_elim, append_assoc, pow-suc, arith, take-append-drop, length-take}
use Rattle.std.proofs.lemmas.List.{take_at, drop_at, drop-drop, get_or-drop, get_or_append_left, get_or-append_right, length-take-le}
use Rattle.std.proofs.lemmas.Bool.{leb-true, le-leb, and_parts, and_from, cases_Bool, cases_order, cond-true, cond-false, both_ways}
use Rattle.mode.specs.declared.fault.Fault.TheVariants.{NotAuthentic}
use Rattle.mode.specs.declared.setting.Admitted.{Admitted}
use Rattle.std.specs.Str.{bytes_eq}
use Rattle.words.specs.Bytes.{low_bytes}
use Rattle.mode.specs.Limits.{data_most, message_most}
use Rattle.mode.specs.Padding.{nonce_bits, trailer_number, trailer, pad_message, pads_to, unpadded_below, unpadded}
use Rattle.mode.specs.Sealing.{cipher_length}
use Rattle.mode.specs.Opening.{message_answer}
use Rattle.std.proofs.lemmas.Slice.Eq.{bytes_eq-Decides}
use Rattle.mode.proofs.Pads.{length-trailer, length-message, length-pad_message, pad_message_is, blocks_hold}

get_or-zeros : (k i : ℕ) → ◌≡◌ {A = ℕ} (get_or (replicate k 0) i 0) 0
get_or-zeros zero i = refl
get_or-zeros (suc k) zero = refl
get_or-zeros (suc k) (suc i) = get_or-zeros k i

-- the top byte of a number that has k bytes below it
top_byte : (k n : ℕ) → 256 ^ k ≤ n → n < 4 * 256 ^ k → get_or (low_bytes (suc k) n) k 0 ≡ 0 → ⊥
unfolding low_bytes
top_byte zero n lo hi e = omega arith
top_byte (suc k) n lo hi e = top_byte k (n / 256) (omega (arith, pow-suc 256 k)) (omega (arith, pow-suc 256 k)) e

number-range : (w ν α μ : ℕ) → (w ≡ 8) ⊎ (w ≡ 9) → ν ≤ 256 → α ≤ 32768 → μ ≤ 524288 → (256 ^ 12 ≤ ν + 2 ^ w * (α + 2 ^ 24 * (μ + 2 ^ 64))) × (ν + 2 ^ w * (α + 2 ^ 24 * (μ + 2 ^ 64)) < 4 * 256 ^ 12)
number-range w ν α μ (inl e) a b c =
    let at : ν + 2 ^ w * (α + 2 ^ 24 * (μ + 2 ^ 64)) ≡ ν + 256 * (α + 16777216 * (μ + 18446744073709551616)) = ap (λ v. ν + 2 ^ v * (α + 2 ^ 24 * (μ + 2 ^ 64))) e in
    rw at (omega arith, omega arith)
number-range w ν α μ (inr e) a b c =
    let at : ν + 2 ^ w * (α + 2 ^ 24 * (μ + 2 ^ 64)) ≡ ν + 512 * (α + 16777216 * (μ + 18446744073709551616)) = ap (λ v. ν + 2 ^ v * (α + 2 ^ 24 * (μ + 2 ^ 64))) e in
    rw at (omega arith, omega arith)

bits_are : (B : ℕ) → (nonce_bits B ≡ 8) ⊎ (nonce_bits B ≡ 9)
bits_are B = elim (eqb B 16) as (λ b. (◌≡◌ {A = ℕ} (cond b 8 9) 8) ⊎ (◌≡◌ {A = ℕ} (cond b 8 9) 9)) [ true ↦ inl refl | false ↦ inr refl ]

-- the trailer's last byte is not zero
pub trailer-top : (B ν α μ : ℕ) → ν ≤ 256 → α ≤ 32768 → μ ≤ 524288 → get_or (trailer B ν α μ) 12 0 ≡ 0 → ⊥
unfolding trailer
trailer-top B ν α μ a b c e =
    let r = number-range (nonce_bits B) ν α μ (bits_are B) a b c in
    top_byte 12 (trailer_number B ν α μ) r.0 r.1 e

-- r is where the zeros at the end of p begin
pub record Reaches (p : List ℕ) (r : ℕ) : Type 0 where
  pub zeros : drop r p ≡ replicate (length p - r) 0
  pub last : 0 < r → get_or p (r - 1) 0 ≡ 0 → ⊥

-- what a setting that is admitted says of the lengths in bits
pub record Bounds (B ν α : ℕ) : Type 0 where
  pub some : 0 < B
  pub nonce : ν ≤ 256
  pub «data» : α ≤ 32768

pub bounds : (B n a : ℕ) → 0 < B → B ≤ 32 → n ≤ B → a ≤ data_most → Bounds B (8 * n) (8 * a)
bounds B n a some few hn ha = record { some = some; nonce = omega arith; «data» = omega arith }

module _ (B ν α : ℕ) (within : Bounds B ν α) where
  end_byte : (M p : List ℕ) → length M ≤ message_most → pad_message B ν α M ≡ p → get_or p (length M + 12) 0 ≡ 0 → ⊥
  end_byte M p h e z =
      let m = length M in
      let t = trailer B ν α (8 * m) in
      let lt = length-trailer B ν α (8 * m) in
      let zs = replicate (cipher_length B m - (m + 13)) 0 in
      let both = length-message B ν α M in
      let is : p ≡ (M ++ t) ++ zs = sym e ∙ pad_message_is B ν α M in
      let k : m + 12 - m ≡ 12 = omega arith in
      let at : get_or p (m + 12) 0 ≡ get_or t 12 0 = ap (λ x. get_or x (m + 12) 0) is ∙ get_or_append_left (M ++ t) zs 0 (m + 12) (omega arith) ∙ get_or-append_right M t m (m + 12) 0 refl (omega arith) ∙ ap (λ i. get_or t i 0) k in
      trailer-top B ν α (8 * m) within.nonce within.«data» (omega arith) (sym at ∙ z)

  end_zeros : (M p : List ℕ) (i : ℕ) → pad_message B ν α M ≡ p → length M + 13 ≤ i → get_or p i 0 ≡ 0
  end_zeros M p i e h =
      let m = length M in
      let t = trailer B ν α (8 * m) in
      let zs = replicate (cipher_length B m - (m + 13)) 0 in
      let is : p ≡ (M ++ t) ++ zs = sym e ∙ pad_message_is B ν α M in
      ap (λ x. get_or x i 0) is ∙ get_or-append_right (M ++ t) zs (m + 13) i 0 (length-message B ν α M) h ∙ get_or-zeros (cipher_length B m - (m + 13)) (i - (m + 13))

  -- the end of what is not zero is the end of the trailer
  pub reach_is : (M p : List ℕ) (r : ℕ) → length M ≤ message_most → pad_message B ν α M ≡ p → Reaches p r → r ≡ length M + 13
  reach_is M p r h e R =
      let m = length M in
      elim (cases_order r (m + 13)) [
        | inl q ↦ q
        | inr q ↦ elim q [
          | inl less ↦ absurd (
              let at : r + (m + 12 - r) ≡ m + 12 = omega arith in
              end_byte M p h e (sym (ap (λ i. get_or p i 0) at) ∙ sym (get_or-drop r p (m + 12 - r) 0) ∙ ap (λ x. get_or x (m + 12 - r) 0) R.zeros ∙ get_or-zeros (length p - r) (m + 12 - r)))
          | inr more ↦ absurd (R.last (omega arith) (end_zeros M p (r - 1) e (omega arith)))
        ]
      ]

  -- the parts of a padding
  pub message_is : (M p : List ℕ) → pad_message B ν α M ≡ p → take (length M) p ≡ M
  message_is M p e =
      let m = length M in
      let t = trailer B ν α (8 * m) in
      let zs = replicate (cipher_length B m - (m + 13)) 0 in
      ap (take m) (sym e ∙ pad_message_is B ν α M ∙ append_assoc M t zs) ∙ take_at M (t ++ zs) m refl

  pub trailer_is : (M p : List ℕ) → pad_message B ν α M ≡ p → take 13 (drop (length M) p) ≡ trailer B ν α (8 * length M)
  trailer_is M p e =
      let m = length M in
      let t = trailer B ν α (8 * m) in
      let zs = replicate (cipher_length B m - (m + 13)) 0 in
      ap (λ x. take 13 (drop m x)) (sym e ∙ pad_message_is B ν α M ∙ append_assoc M t zs) ∙ ap (take 13) (drop_at M (t ++ zs) m refl) ∙ take_at t zs 13 (length-trailer B ν α (8 * m))

  pub reaches : (M p : List ℕ) → length M ≤ message_most → pad_message B ν α M ≡ p → Reaches p (length M + 13)
  reaches M p h e =
      let m = length M in
      let t = trailer B ν α (8 * m) in
      let zs = replicate (cipher_length B m - (m + 13)) 0 in
      let size : length p ≡ cipher_length B m = ap length (sym e) ∙ length-pad_message B ν α M within.some in
      let at : m + 13 - 1 ≡ m + 12 = omega arith in
      record {
        zeros = ap (drop (m + 13)) (sym e ∙ pad_message_is B ν α M) ∙ drop_at (M ++ t) zs (m + 13) (length-message B ν α M) ∙ ap (λ k. replicate (k - (m + 13)) 0) (sym size);
        last = λ _ z. end_byte M p h e (sym (ap (λ i. get_or p i 0) at) ∙ z);
      }

  -- no two messages have one padding
  pub one_message : (M M' : List ℕ) → length M ≤ message_most → length M' ≤ message_most → pad_message B ν α M ≡ pad_message B ν α M' → M ≡ M'
  one_message M M' h h' e =
      let p = pad_message B ν α M' in
      let same : length M' + 13 ≡ length M + 13 = reach_is M p (length M' + 13) h e (reaches M' p h' refl) in
      let size : length M ≡ length M' = omega arith in
      sym (message_is M p e) ∙ ap (λ k. take k p) size ∙ message_is M' p refl

  pads_true : (p : List ℕ) (n : ℕ) → pads_to B ν α p n ≡ true → (n ≤ message_most) × (pad_message B ν α (take n p) ≡ p)
  unfolding pads_to
  pads_true p n e =
      let t = and_parts (leb n message_most) (bytes_eq (pad_message B ν α (take n p)) p) e in
      (leb-true n message_most t.0, (bytes_eq-Decides (pad_message B ν α (take n p)) p).0 t.1)

  true_pads : (p : List ℕ) (n : ℕ) → n ≤ message_most → pad_message B ν α (take n p) ≡ p → pads_to B ν α p n ≡ true
  unfolding pads_to
  true_pads p n h e = and_from (leb n message_most) (bytes_eq (pad_message B ν α (take n p)) p) (le-leb n message_most h) ((bytes_eq-Decides (pad_message B ν α (take n p)) p).1 e)

  sound_below : (p M : List ℕ) (k : ℕ) → unpadded_below B ν α p k ≡ Some M → (length M ≤ message_most) × (pad_message B ν α M ≡ p)
  unfolding unpadded_below
  sound_below p M zero e = cc
  sound_below p M (suc k) e =
      ⊎_elim
      (λ t.
      let f = pads_true p k t in
      let same : Some (take k p) ≡ Some M = sym (cond-true (pads_to B ν α p k) (Some (take k p)) (unpadded_below B ν α p k) t) ∙ e in
      let is : take k p ≡ M = cc in
      (omega (arith, length-take k p, ap length is, f.0), ap (pad_message B ν α) (sym is) ∙ f.1))
      (λ t. sound_below p M k (sym (cond-false (pads_to B ν α p k) (Some (take k p)) (unpadded_below B ν α p k) t) ∙ e))
      (cases_Bool (pads_to B ν α p k))

  complete_below : (p M : List ℕ) (k : ℕ) → length M ≤ message_most → pad_message B ν α M ≡ p → length M < k → unpadded_below B ν α p k ≡ Some M
  unfolding unpadded_below
  complete_below p M zero h e less = absurd (omega arith)
  complete_below p M (suc k) h e less =
      let here = message_is M p e in
      ⊎_elim
      (λ t.
      let f = pads_true p k t in
      let le : length (take k p) ≤ message_most = omega (arith, length-take k p, f.0) in
      cond-true (pads_to B ν α p k) (Some (take k p)) (unpadded_below B ν α p k) t ∙ ap Some (one_message (take k p) M le h (f.1 ∙ sym e)))
      (λ t. cond-false (pads_to B ν α p k) (Some (take k p)) (unpadded_below B ν α p k) t ∙ ⊎_elim
      (λ q. absurd (both_ways (pads_to B ν α p k) t (true_pads p k (omega arith) (ap (λ n. pad_message B ν α (take n p)) q ∙ ap (pad_message B ν α) here ∙ e))))
      (λ q. complete_below p M k h e (⊎_elim (λ l. absurd (omega arith)) (λ l. l) q))
      (cases_order k (length M)))
      (cases_Bool (pads_to B ν α p k))

  -- what reads a padding back reads the message
  pub unpads : (p M : List ℕ) → unpadded B ν α p ≡ Some M → (length M ≤ message_most) × (pad_message B ν α M ≡ p)
  unfolding unpadded
  unpads p M e = sound_below p M (length p) e

  pub reads_back : (p M : List ℕ) → length M ≤ message_most → pad_message B ν α M ≡ p → unpadded B ν α p ≡ Some M
  unfolding unpadded
  reads_back p M h e =
      let hold = blocks_hold B (length M + 13) within.some in
      complete_below p M (length p) h e (omega (arith, hold.0, sym (ap length e) ∙ length-pad_message B ν α M within.some))

  none_of : (p : List ℕ) (o : Option (List ℕ)) → unpadded B ν α p ≡ o → ((M : List ℕ) → length M ≤ message_most → pad_message B ν α M ≡ p → ⊥) → Err NotAuthentic ≡ message_answer o
  none_of p None e no' = refl
  none_of p (Some M) e no' = absurd (let u = unpads p M e in no' M u.0 u.1)

-- how a padding ends: r is where its zeros begin
pub record Ended (B ν α : ℕ) (p : List ℕ) (r : ℕ) : Type 0 where
  pub low : 13 ≤ r
  pub high : r ≤ message_most + 13
  pub size : length p ≡ cipher_length B (r - 13)
  pub last : trailer B ν α (8 * (r - 13)) ≡ take (r - (r - 13)) (drop (r - 13) p)

-- the lengths of a setting that is admitted
pub bounds_under : (B : ℕ) (u : Admitted B) → Bounds B (8 * length u.setting.nonce.now) (8 * length u.setting.ad.now)
bounds_under B u = bounds B (length u.setting.nonce.now) (length u.setting.ad.now) u.some u.few u.nonce u.ad

-- p is a padding just where it ends so
module _ (B ν α : ℕ) (within : Bounds B ν α) (p : List ℕ) (r : ℕ) (zeros : drop r p ≡ replicate (length p - r) 0) where
  pub refused : (0 < r → get_or p (r - 1) 0 ≡ 0 → ⊥) → (Ended B ν α p r → ⊥) → Err NotAuthentic ≡ message_answer (unpadded B ν α p)
  refused top not_so = none_of B ν α within p (unpadded B ν α p) refl (λ M l e.
      let at = reach_is B ν α within M p r l e (record { zeros = zeros; last = top }) in
      let k : length M ≡ r - 13 = omega arith in
      let all : 13 ≡ r - (r - 13) = omega arith in
      not_so (record {
        low = omega arith;
        high = omega arith;
        size = ap length (sym e) ∙ length-pad_message B ν α M within.some ∙ ap (cipher_length B) k;
        last = sym (ap (λ x. trailer B ν α (8 * x)) k) ∙ sym (trailer_is B ν α within M p e) ∙ ap (λ x. take 13 (drop x p)) k ∙ ap (λ x. take x (drop (r - 13) p)) all;
      }))

  pub accepted : r ≤ length p → Ended B ν α p r → Ok (r - 13) ≡ message_answer (unpadded B ν α p)
  accepted inside E =
      let k = r - 13 in
      let M = take k p in
      let l_m : length M ≡ k = length-take-le k p (omega arith) in
      let all : r - k ≡ 13 = omega (arith, E.low) in
      let back : k + 13 ≡ r = omega (arith, E.low) in
      let rest : drop 13 (drop k p) ≡ replicate (cipher_length B k - (k + 13)) 0 = drop-drop 13 k p ∙ ap (λ x. drop x p) back ∙ zeros ∙ ap (λ x. replicate (x - r) 0) E.size ∙ ap (λ x. replicate (cipher_length B k - x) 0) (sym back) in
      let tr : take 13 (drop k p) ≡ trailer B ν α (8 * k) = sym (E.last ∙ ap (λ x. take x (drop k p)) all) in
      let is : p ≡ (M ++ trailer B ν α (8 * k)) ++ replicate (cipher_length B k - (k + 13)) 0 = sym (take-append-drop k p) ∙ ap (λ x. M ++ x) (sym (take-append-drop 13 (drop k p))) ∙ ap (λ x. M ++ (x ++ drop 13 (drop k p))) tr ∙ ap (λ x. M ++ (trailer B ν α (8 * k) ++ x)) rest ∙ sym (append_assoc M (trailer B ν α (8 * k)) _) in
      let pads : pad_message B ν α M ≡ p = pad_message_is B ν α M ∙ ap (λ x. (M ++ trailer B ν α (8 * x)) ++ replicate (cipher_length B x - (x + 13)) 0) l_m ∙ sym is in
      sym (ap message_answer (reads_back B ν α within p M (omega (arith, E.high)) pads) ∙ ap Ok l_m)
