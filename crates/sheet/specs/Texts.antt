-- The text of a sheet, and what a text is read as.
use Rattle.std.specs.Prelude.{ℕ, zero, suc, ◌+◌, ◌-◌, ◌*◌, ◌/◌, ◌%◌, cond, ◌&&◌, List, [], ◌∷◌, ◌++◌, length, take, drop, Ok, Err, Result, ◌==◌, nat_le}
use Rattle.sheet.specs.Faults.{through, carried}
use Rattle.sheet.specs.Limits.{zones_most, line_bytes}
use Rattle.sheet.specs.Lines.{head_text, zone_text, read_head, read_zone}
use Rattle.sheet.specs.Meanings.{Meaning}
use Rattle.sheet.specs.declared.fault.ColumnFault.{ColumnFault}
use Rattle.sheet.specs.declared.fault.Fault.{Fault}
use Rattle.sheet.specs.declared.fault.Fault.TheVariants.{TextLength}
use Rattle.sheet.specs.declared.zone.Zone.{Zone}

-- the lines of zones, from line i on
abbrev pub zone_texts : ℕ → List Zone → List ℕ
zone_texts i [] = []
zone_texts i (z ∷ zs) = zone_text i z ++ zone_texts (i + 1) zs

abbrev pub text_of : Meaning → List ℕ
text_of m = head_text m.grade (length m.zones) m.width ++ zone_texts 1 m.zones

-- the bytes of a text of so many zones: a line for each, and one before them
abbrev pub text_bytes : ℕ → ℕ
text_bytes count = line_bytes * (count + 1)

-- how many zones a text of so many bytes has: one at least, and no more than a sheet may have
abbrev pub zones_in : ℕ → ℕ
zones_in bytes = bytes / line_bytes - 1

abbrev pub count_zones : ℕ → Result ℕ Fault
count_zones bytes =
    cond (bytes % line_bytes == 0 && (nat_le 1 (zones_in bytes) && nat_le (zones_in bytes) zones_most)) (Ok (zones_in bytes)) (Err TextLength)

-- n zones, from line i on
abbrev pub read_zones : ℕ → ℕ → List ℕ → Result (List Zone) ColumnFault
read_zones zero i bs = Ok []
read_zones (suc n) i bs =
    through (read_zone i (take line_bytes bs)) (λ z.
    through (read_zones n (i + 1) (drop line_bytes bs)) (λ zs.
    Ok (z ∷ zs)))

-- the lines of n zones, in turn
abbrev pub read_lines : ℕ → List ℕ → Result Meaning ColumnFault
read_lines n text =
    through (read_head n (take line_bytes text)) (λ h.
    through (read_zones n 1 (drop line_bytes text)) (λ zs.
    Ok (record { grade = h.grade; width = h.width; zones = zs })))

-- the length of a text is judged first, and then its lines
abbrev pub read_text : List ℕ → Result Meaning Fault
read_text text = through (count_zones (length text)) (λ n. carried (read_lines n text))
