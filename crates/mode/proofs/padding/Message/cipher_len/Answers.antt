use Rattle.std.proofs.Common.{length, ◌+◌}
use Rattle.mode.proofs.Pads.{whole_is}
use Rattle.mode.proofs.padding.Message.cipher_len.Goals as goal

pub returns : goal.returns
returns g c =
    let r = c.next_multiple_of.ensures in
    whole_is g.row.B (length c.args.self.now.bytes.now + 13) c.next_multiple_of.result r.lower_bound r.upper_bound r.multiple
