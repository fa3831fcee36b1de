use Rattle.std.proofs.Common.{◌≡◌, ◌+◌, ◌≤◌, ◌++◌, length, Ok, refl, subst, ap, ◌∙◌, arith}
use Rattle.mixers.specs.Blocks.{over}
use Rattle.mode.specs.Limits.{message_most}
use Rattle.mode.specs.Sealing.{cipher_text, cipher_tag, cipher_length, seal_answer, written}
use Rattle.mode.proofs.Admits.{admitted_by, sealable}
use Rattle.mode.proofs.Faith.{opens-again}
use Rattle.mode.proofs.sealing.seal.Goals as goal

pub returns : goal.returns
returns g c =
    let B = g.row.B in
    let mixer = c.args.mixer.now in
    let f = g.M.Mixer.mixing mixer in
    let s = c.args.setting in
    let M = c.args.message.now in
    let xs = c.args.out.now in
    let m = c.in_ok-message.message in
    let l = c.in_ok-lengths.lengths in
    let n = cipher_length B (length M) in
    let setting : m.under.setting ≡ s = ap (λ u. u.setting) c.in_ok-message.ensures.0 ∙ c.in_ok-new.ensures in
    let bytes : m.bytes.now ≡ M = c.in_ok-message.ensures.1 in
    let admitted = admitted_by B m.under s setting in
    let limit : length M ≤ message_most = omega (arith, m.short, ap length bytes) in
    let both : l ≡ (n, n + B) = c.in_ok-lengths.ensures.0 ∙ ap (λ x. (cipher_length B (length x), cipher_length B (length x) + B)) bytes in
    let room : n + B ≤ length xs = subst (λ x. cipher_length B (length x) + B ≤ length xs) bytes c.in_ok-lengths.ensures.1 in
    let answer : Ok l ≡ seal_answer B s.key.now s.nonce.now s.ad.now M xs = ap Ok both ∙ sealable B s.key.now s.nonce.now s.ad.now M xs n admitted limit refl room in
    record {
      answer = answer;
      buffer =
          c.write_sealed.ensures
          ∙ ap (λ v. over (cipher_text f B v.key.now v.nonce.now v.ad.now m.bytes.now ++ cipher_tag f B v.key.now v.nonce.now v.ad.now m.bytes.now) xs) setting
          ∙ ap (λ x. over (cipher_text f B s.key.now s.nonce.now s.ad.now x ++ cipher_tag f B s.key.now s.nonce.now s.ad.now x) xs) bytes
          ∙ ap (λ r. written r (cipher_text f B s.key.now s.nonce.now s.ad.now M ++ cipher_tag f B s.key.now s.nonce.now s.ad.now M) xs) answer;
      again = opens-again f B (g.M.Mixer.mark_byte mixer) (g.M.Mixer.laws mixer) s.key.now s.nonce.now s.ad.now admitted M l limit (ap (λ p. p.0) both) (ap (λ p. p.1) both);
    }
