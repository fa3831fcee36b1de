-- The ranges of a zone, and of the rows of a table of zones.
use Rattle.std.specs.Prelude.{◌≡◌, ℕ, ◌<◌, ◌≤◌, List, pos, ◌≤ℤ◌, slice_index_or}
use Rattle.sheet.specs.Limits.{target_most, trim_least, trim_most}
use Rattle.sheet.specs.declared.zone.Zone.{Zone}

-- target 0 and trim 0
abbrev pub zero_zone : Zone
zero_zone = record { target = 0; trim = pos 0 }

abbrev pub ZoneInRange : Zone → Type 0
ZoneInRange z = (z.target ≤ target_most) × (trim_least ≤ℤ z.trim) × (z.trim ≤ℤ trim_most)

-- each of the first n is in range
abbrev pub ZonesInRange : List Zone → ℕ → Type 0
ZonesInRange zs n = (k : ℕ) → k < n → ZoneInRange (slice_index_or zs k zero_zone)

-- each row from n on is zero
abbrev pub Unused : List Zone → ℕ → Type 0
Unused rows n = (k : ℕ) → n ≤ k → slice_index_or rows k zero_zone ≡ zero_zone
