use Rattle.std.proofs.Common.{◌≡◌, ℕ, ◌-◌, ◌*◌, ◌≤◌, List, length, take, drop, sym, ap, ◌∙◌, arith, length-take-le}
use Rattle.std.specs.Str.{bytes_eq}
use Rattle.std.proofs.lemmas.Slice.Eq.{bytes_eq-Decides}
use Rattle.std.proofs.lemmas.Bool.{both_ways}
use Rattle.mode.specs.Padding.{trailer}
use Rattle.mode.specs.Sealing.{cipher_length}
use Rattle.mode.specs.declared.setting.Admitted.{Admitted}
use Rattle.mode.proofs.Unpads.{bounds_under, refused, accepted}
use Rattle.mode.proofs.setting.Admitted.message_len.Goals as goal
use Rattle.mode.proofs.setting.Admitted.message_len.Goals.{else-text-cipher_len-via-then-text-cipher_len+else-same, else-text-cipher_len-via-else-text-cipher_len}

-- the length of the message that is tried
tried : (xs ys : List ℕ) (r : ℕ) → ys ≡ take (r - 13) xs → r ≤ length xs → length ys ≡ r - 13
tried xs ys r e h = ap length e ∙ length-take-le (r - 13) xs (omega arith)

-- its trailer
tried_trailer : (B : ℕ) (u v : Admitted B) (t ys : List ℕ) (k : ℕ) → t ≡ trailer B (8 * length u.setting.nonce.now) (8 * length u.setting.ad.now) (8 * length ys) → u ≡ v → length ys ≡ k
    → t ≡ trailer B (8 * length v.setting.nonce.now) (8 * length v.setting.ad.now) (8 * k)
tried_trailer B u v t ys k e s l =
    e ∙ ap (λ w. trailer B (8 * length w.setting.nonce.now) (8 * length w.setting.ad.now) (8 * length ys)) s ∙ ap (λ m. trailer B (8 * length v.setting.nonce.now) (8 * length v.setting.ad.now) (8 * m)) l

pub returns-then-end-lt-TRAILER-clause-answer : goal.returns-then-end-lt-TRAILER-clause-answer
returns-then-end-lt-TRAILER-clause-answer g c =
    refused g.row.B _ _ (bounds_under g.row.B c.args.self.now) c.args.text.now c.reach-end.result c.reach-end.ensures.zeros c.reach-end.ensures.last (λ E. omega (arith, E.low))

pub returns-in_default-clause-answer : goal.returns-in_default-clause-answer
returns-in_default-clause-answer g c =
    let r = c.reach-end.result in
    refused g.row.B _ _ (bounds_under g.row.B c.args.self.now) c.args.text.now r c.reach-end.ensures.zeros c.reach-end.ensures.last (λ E.
    omega (arith, E.high, c.in_default.ensures.0, length-take-le (r - 13) c.args.text.now (omega arith)))

pub returns-then-same-clause-answer : goal.returns-then-same-clause-answer
returns-then-same-clause-answer g c =
    let u = c.args.self.now in
    let r = c.reach-end.result in
    let part = take (r - (r - 13)) (drop (r - 13) c.args.text.now) in
    let m = c.in-Ok.message in
    let size = tried c.args.text.now m.bytes.now r c.in-Ok.ensures.1 c.reach-end.ensures.within in
    accepted g.row.B _ _ (bounds_under g.row.B u) c.args.text.now r c.reach-end.ensures.zeros c.reach-end.ensures.within (record {
      low = omega arith;
      high = omega (arith, m.short);
      size = c.if-text-cipher_len.true ∙ c.cipher_len.ensures ∙ ap (cipher_length g.row.B) size;
      last = sym (tried_trailer g.row.B m.under u c.trailer.result m.bytes.now (r - 13) c.trailer.ensures c.in-Ok.ensures.0 size) ∙ (bytes_eq-Decides c.trailer.result part).0 (sym c.if-same.ensures);
    })

pub returns-else-text-cipher_len-clause-answer : goal.returns-else-text-cipher_len-clause-answer
returns-else-text-cipher_len-clause-answer g c =
    let u = c.args.self.now in
    let r = c.reach-end.result in
    let part = take (r - (r - 13)) (drop (r - 13) c.args.text.now) in
    let m = c.in-Ok.message in
    let size = tried c.args.text.now m.bytes.now r c.in-Ok.ensures.1 c.reach-end.ensures.within in
    refused g.row.B _ _ (bounds_under g.row.B u) c.args.text.now r c.reach-end.ensures.zeros c.reach-end.ensures.last (λ E.
    elim c.else-text-cipher_len.branch [
      | else-text-cipher_len-via-then-text-cipher_len+else-same w ↦
          let t = tried_trailer g.row.B m.under u w.trailer.result m.bytes.now (r - 13) w.trailer.ensures c.in-Ok.ensures.0 size in
          both_ways (bytes_eq w.trailer.result part) (sym w.if-same.ensures) ((bytes_eq-Decides w.trailer.result part).1 (t ∙ E.last))
      | else-text-cipher_len-via-else-text-cipher_len w ↦ w.if-text-cipher_len.false (E.size ∙ sym (c.cipher_len.ensures ∙ ap (cipher_length g.row.B) size))
    ])
