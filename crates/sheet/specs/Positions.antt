-- Which zone lies at a position across the paper, and what is set there.
use Rattle.std.specs.Prelude.{ℕ, ◌+◌, ◌-◌, ◌*◌, ◌/◌, cond, length, ℤ, pos, ◌+ℤ◌, Ok, Err, Result, nat_lt, slice_index_or}
use Rattle.sheet.specs.Faults.{through}
use Rattle.sheet.specs.Meanings.{Meaning}
use Rattle.sheet.specs.Ranges.{zero_zone}
use Rattle.sheet.specs.declared.fault.Fault.{Fault}
use Rattle.sheet.specs.declared.fault.Fault.TheVariants.{OffSheet}
use Rattle.sheet.specs.declared.position.Position.{Position}
use Rattle.sheet.specs.declared.zone.Zone.{Zone}

-- zones are counted from 1
abbrev pub zone_numbered : Meaning → ℕ → Zone
zone_numbered m i = slice_index_or m.zones (i - 1) zero_zone

-- the zones share the width evenly; a position lies in the zone that begins there or last before it
abbrev pub zone_at : Meaning → Position → Result ℕ Fault
zone_at m at = cond (nat_lt at.mm m.width) (Ok (at.mm * length m.zones / m.width + 1)) (Err OffSheet)

abbrev pub set_value : Zone → ℤ
set_value z = pos z.target +ℤ z.trim

abbrev pub set_value_at : Meaning → Position → Result ℤ Fault
set_value_at m at = through (zone_at m at) (λ i. Ok (set_value (zone_numbered m i)))
