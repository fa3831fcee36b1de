-- What a zone's columns allow is in range, and trims are the same at both widths.
use mir.Syntax.{w16, w32}
use mir.Val.{SFits, of_z, to_z}
use Rattle.std.proofs.Common.{◌≡◌, ℕ, leb, ℤ, ◌≤ℤ◌, IsTrue, ap, ◌∙◌, arith, rules}
use lib.Signed.{le_z}
use Rattle.std.proofs.lemmas.Bool.{and_parts, leb-true}
use Rattle.std.proofs.lemmas.Int.{ints, to_z-of_z}
use Rattle.sheet.specs.Columns.{plain, signed, allows}
use Rattle.sheet.specs.Limits.{target_most, trim_least, trim_most}
use Rattle.sheet.specs.Lines.{target_column, trim_column}
use Rattle.sheet.specs.Ranges.{ZoneInRange}

pub zone_in_range : (i t : ℕ) (z : ℤ) → IsTrue (allows plain (target_column i) t) → IsTrue (allows signed (trim_column i) z) → ZoneInRange (record { target = t; trim = z })
zone_in_range i t z p q =
    let a = and_parts (leb 0 t) (leb t target_most) p in
    let b = and_parts (le_z trim_least z) (le_z z trim_most) q in
    (leb-true t target_most a.1, search (rules, b.0), search (rules, b.1))

-- a trim keeps its value where it is narrowed
pub narrowed : (z : ℤ) → trim_least ≤ℤ z → z ≤ℤ trim_most → to_z w16 (of_z w16 (to_z w32 (of_z w32 z))) ≡ z
narrowed z l m =
    let wide : SFits w32 z = omega (arith, ints) in
    let small : SFits w16 z = omega (arith, ints) in
    ap (λ y. to_z w16 (of_z w16 y)) (to_z-of_z w32 z wide) ∙ to_z-of_z w16 z small

-- a trim keeps its value where it is widened
pub widened : (y z : ℤ) → y ≡ to_z w16 (of_z w16 z) → SFits w16 z → SFits w32 y → to_z w32 (of_z w32 y) ≡ z
widened y z e small large = to_z-of_z w32 y large ∙ e ∙ to_z-of_z w16 z small
