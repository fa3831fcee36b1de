use Rattle.sheet.proofs.InRange.{zone_in_range, narrowed}
use Rattle.sheet.proofs.lines.read_zone.Goals as goal

pub returns-clause-bounds : goal.returns-clause-bounds
returns-clause-bounds c =
    let t = rw c.target_column.ensures at c.in_ok-target.ensures.bounds in
    let z = rw c.trim_column.ensures at c.in_ok-trim.ensures.bounds in
    let r = zone_in_range c.args.i c.in_ok-target.target c.in_ok-trim.trim t z in
    rw (narrowed c.in_ok-trim.trim r.1 r.2) r
