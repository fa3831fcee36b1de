use Rattle.std.proofs.Common.{◌<◌, ◌≤◌, length, sym, refl, ◌∙◌, arith, length-set}
use Rattle.mixers.proofs.Xor.{xor_more, xor_done}
use Rattle.mixers.proofs.block.Block.xor.Goals as goal

pub loop-i-preserved : goal.loop-i-preserved
loop-i-preserved g c =
    let inv = c.loop-i.invariant in
    let la : c.loop-i.i < length c.loop-i.byte-items = omega (arith, inv.0, c.args.self.now.sized) in
    let lb : c.loop-i.i < length c.args.other.now.bytes = omega (arith, c.args.other.now.sized) in
    (length-set _ _ _ ∙ inv.0, xor_more _ _ _ _ la lb refl ∙ inv.1)

pub returns : goal.returns
returns g c =
    let inv = c.loop-i.invariant in
    let la : length c.loop-i.byte-items ≤ c.loop-i.i = omega (arith, inv.0, c.args.self.now.sized) in
    sym (xor_done _ _ _ la) ∙ inv.1
