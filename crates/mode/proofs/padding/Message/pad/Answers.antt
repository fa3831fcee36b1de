use Rattle.std.proofs.Common.{◌≡◌, ◌+◌, ◌-◌, ◌*◌, length, replicate, sym, ◌∙◌, append_assoc, arith, rules}
use Rattle.mode.specs.Padding.{trailer}
use Rattle.mode.specs.Sealing.{cipher_length}
use Rattle.mode.proofs.Pads.{pad_message_is}
use Rattle.mode.proofs.padding.Message.pad.Goals as goal

pub returns : goal.returns
returns g c =
    let s = c.args.self.now in
    let M = s.bytes.now in
    let B = g.row.B in
    let ν = 8 * length s.under.setting.nonce.now in
    let α = 8 * length s.under.setting.ad.now in
    let n = cipher_length B (length M) - (length M + 13) in
    let t = trailer B ν α (8 * length M) in
    let size : length c.split_at_mut-trailer.result.1.now ≡ n = omega (arith, c.split_at_mut-trailer.ensures.back_len, c.split_at_mut-message.ensures.back_len, c.requires) in
    let zs : c.fill.new.self ≡ replicate (length c.split_at_mut-trailer.result.1.now) 0 = search rules in
    rw (c.copy.ensures, c.copy_from_slice.ensures.after, c.trailer.ensures, zs, size) (sym (append_assoc M t (replicate n 0)) ∙ sym (pad_message_is B ν α M))
