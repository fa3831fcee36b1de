use Rattle.std.proofs.Common.{rules}
use Rattle.artemia.proofs.Quarters.{substitute_is}
use Rattle.artemia.proofs.short.U32Short.substitute.Goals as goal

pub returns : goal.returns
returns c =
    let m = c.map.ensures.items in
    substitute_is 3 c.args.self _ _ _ c.to_le_bytes.ensures m.long (λ i h. let t = m.at i 0 0 h in search rules) c.from_le_bytes.ensures
