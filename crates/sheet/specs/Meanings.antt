-- What a grade sheet means, and the ranges that it keeps to.
use Rattle.std.specs.Prelude.{ℕ, ◌≤◌, List, length}
use Rattle.sheet.specs.Limits.{grade_most, zones_most, width_least, width_most}
use Rattle.sheet.specs.Ranges.{ZonesInRange}
use Rattle.sheet.specs.declared.zone.Zone.{Zone}

pub record Meaning : Type 0 where
  pub grade : ℕ
  pub width : ℕ
  pub zones : List Zone

pub record InRange (m : Meaning) : Type 0 where
  pub least_grade : 1 ≤ m.grade
  pub most_grade : m.grade ≤ grade_most
  pub least_width : width_least ≤ m.width
  pub most_width : m.width ≤ width_most
  pub least_zones : 1 ≤ length m.zones
  pub most_zones : length m.zones ≤ zones_most
  pub each_zone : ZonesInRange m.zones (length m.zones)
