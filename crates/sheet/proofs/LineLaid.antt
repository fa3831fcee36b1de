-- Three columns and a line feed, written into a line one after the other.
use borrow.Rule.Slice.PartMut.{mid_of, put_mid, post_of, same_len_mid}
use Rattle.std.proofs.Common.{◌≡◌, ℕ, ◌+◌, ◌^◌, ◌<◌, ◌≤◌, List, [], ◌∷◌, ◌++◌, length, drop, set, ℤ, decimal, sym, refl, ap, ◌∙◌, arith, length-append, length-drop, length-take}
use lib.Signed.{mag}
use Rattle.std.specs.Fmt.{signed_decimal}
use Rattle.std.proofs.lemmas.Fmt.{length-decimal-le, length_signed_le}
use Rattle.std.proofs.lemmas.List.{append_assoc, take_at, drop_at, set-append_right}

-- a part has the bytes that it was cut to
part_length : (l : List ℕ) (i k : ℕ) → i + k ≤ length l → length (mid_of i k l) ≡ k
part_length l i k h = omega (arith, length-take k (drop i l), length-drop i l)

-- numbers that have room in a part of m bytes
pub four_have_room : (n m : ℕ) → m ≡ 4 → n < 10 ^ 4 → length (decimal n) ≤ m
four_have_room n m e small = omega (arith, e, length-decimal-le 4 n (omega arith) small (omega arith))

pub six_have_room : (n m : ℕ) → m ≡ 6 → n < 10 ^ 6 → length (decimal n) ≤ m
six_have_room n m e small = omega (arith, e, length-decimal-le 6 n (omega arith) small (omega arith))

pub has_room_signed : (z : ℤ) (k m : ℕ) → m ≡ k + 1 → mag z + 1 < 10 ^ k → mag z < 2 ^ 63 → length (signed_decimal z) ≤ m
has_room_signed z k m e small f = omega (arith, e, length_signed_le k z small f)

only_set : (r : List ℕ) (v : ℕ) → length r ≡ 1 → set r 0 v ≡ v ∷ []
only_set [] v e = absurd (omega (arith, e))
only_set (x ∷ []) v e = refl
only_set (x ∷ (y ∷ ys)) v e = absurd (omega (arith, e))

-- a part put behind what stands there already
put_next : (done rest part : List ℕ) (j k : ℕ) → length done ≡ j → put_mid j k (done ++ rest) part ≡ (done ++ part) ++ drop k rest
put_next done rest part j k e =
    ap (λ d. d ++ (part ++ drop k (drop j (done ++ rest)))) (take_at done rest j e)
    ∙ ap (λ d. done ++ (part ++ drop k d)) (drop_at done rest j e)
    ∙ sym (append_assoc done part (drop k rest))

laid : (out a b c : List ℕ) (j k m : ℕ) → length out ≡ 17 → length a ≡ j → length b ≡ k → length c ≡ m → j + k + m ≡ 16 → set (put_mid (j + k) m (put_mid j k (a ++ post_of 0 j out) b) c) 16 10 ≡ a ++ (b ++ (c ++ (10 ∷ [])))
laid out a b c j k m lo la lb lc all =
    let rest = drop m (drop k (drop j out)) in
    let two : length (a ++ b) ≡ j + k = omega (arith, length-append a b) in
    let three : length ((a ++ b) ++ c) ≡ 16 = omega (arith, length-append (a ++ b) c) in
    let one : length rest ≡ 1 = omega (arith, length-drop m (drop k (drop j out)), length-drop k (drop j out), length-drop j out) in
    ap (λ l. set (put_mid (j + k) m l c) 16 10) (put_next a (drop j out) b j k la)
    ∙ ap (λ l. set l 16 10) (put_next (a ++ b) (drop k (drop j out)) c (j + k) m two)
    ∙ set-append_right ((a ++ b) ++ c) rest 16 16 10 three (omega arith)
    ∙ ap (λ r. ((a ++ b) ++ c) ++ r) (only_set rest 10 one)
    ∙ append_assoc (a ++ b) c (10 ∷ [])
    ∙ append_assoc a b (c ++ (10 ∷ []))

-- x, y and z stand in parts of j, k and m bytes, each as what is written for a part of its length
pub line_laid : (out x y z : List ℕ) (a b c : ℕ → List ℕ) (j k m : ℕ) → length out ≡ 17 → j + k + m ≡ 16 →
    (length x ≡ length (mid_of 0 j out)) → x ≡ a (length (mid_of 0 j out)) →
    (length y ≡ length (mid_of j k (x ++ post_of 0 j out))) → y ≡ b (length (mid_of j k (x ++ post_of 0 j out))) →
    (length z ≡ length (mid_of (j + k) m (put_mid j k (x ++ post_of 0 j out) y))) → z ≡ c (length (mid_of (j + k) m (put_mid j k (x ++ post_of 0 j out) y))) →
    set (put_mid (j + k) m (put_mid j k (x ++ post_of 0 j out) y) z) 16 10 ≡ a j ++ (b k ++ (c m ++ (10 ∷ [])))
line_laid out x y z a b c j k m lo all lx first ly second lz third =
    let one = x ++ post_of 0 j out in
    let p : length (mid_of 0 j out) ≡ j = part_length out 0 j (omega arith) in
    let l : length one ≡ 17 = omega (arith, length-append x (drop j out), length-drop j out) in
    let q : length (mid_of j k one) ≡ k = part_length one j k (omega arith) in
    let r : length (mid_of (j + k) m (put_mid j k one y)) ≡ m = part_length (put_mid j k one y) (j + k) m (omega (arith, same_len_mid j k one y ly)) in
    laid out x y z j k m lo (lx ∙ p) (ly ∙ q) (lz ∙ r) all
    ∙ ap (λ d. d ++ (y ++ (z ++ (10 ∷ [])))) (first ∙ ap a p)
    ∙ ap (λ d. a j ++ (d ++ (z ++ (10 ∷ [])))) (second ∙ ap b q)
    ∙ ap (λ d. a j ++ (b k ++ (d ++ (10 ∷ [])))) (third ∙ ap c r)
