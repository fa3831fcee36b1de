use Rattle.std.proofs.Common.{◌≡◌, ◌++◌, length, ap, ◌∙◌, arith}
use Rattle.mixers.specs.Blocks.{over}
use Rattle.mode.specs.Sealing.{cipher_text, cipher_tag}
use Rattle.mode.proofs.Sealed.{written_after}
use Rattle.mode.proofs.padding.Message.write_sealed.Goals as goal

pub returns : goal.returns
unfolding cipher_text cipher_tag
returns g c =
    let f = g.M.Mixer.mixing c.args.mixer.now in
    let m = c.args.self.now in
    let s = m.under.setting in
    let xs = c.args.out.now in
    let e = c.begin-chain.ensures in
    let t = c.turn_all.ensures in
    let P = c.pad.ensures in
    let cipher : c.turn_all.new.text ≡ cipher_text f g.row.B s.key.now s.nonce.now s.ad.now m.bytes.now = t.out ∙ rw (e.state, e.prev, P) in
    let tag : c.copy_from_slice.new.self ≡ cipher_tag f g.row.B s.key.now s.nonce.now s.ad.now m.bytes.now = c.copy_from_slice.ensures.after ∙ c.tag-tag.ensures ∙ rw (t.state, t.prev, e.state, e.prev, P) in
    let size : length c.turn_all.new.text ≡ c.cipher_len.result = omega (arith, c.turn_all.auto.text, c.pad.auto.out, c.split_at_mut-cipher.ensures.front_len) in
    let tag_size : length c.copy_from_slice.new.self ≡ g.row.B = ap length c.copy_from_slice.ensures.after ∙ c.tag-tag.result.sized in
    written_after c.turn_all.new.text c.copy_from_slice.new.self xs c.split_at_mut-cipher.result.1.now c.cipher_len.result g.row.B size tag_size c.split_at_mut-cipher.ensures.back
    ∙ ap (λ x. over (x ++ c.copy_from_slice.new.self) xs) cipher
    ∙ ap (λ x. over (cipher_text f g.row.B s.key.now s.nonce.now s.ad.now m.bytes.now ++ x) xs) tag
