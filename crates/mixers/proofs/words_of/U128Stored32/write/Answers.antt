use Rattle.std.proofs.Common.{◌≡◌, ◌/◌, ◌^◌, refl, sym, ◌∙◌}
use Rattle.words.specs.Bytes.{low_bytes}
use Rattle.words.proofs.Bytes.{low_bytes-add}
use Rattle.words.proofs.Conversions.{to_low}
use Rattle.artemia.proofs.Quarters.{masked}
use Rattle.mixers.proofs.words_of.U128Stored32.write.Goals as goal

pub returns : goal.returns
returns c =
    let x = c.args.self in
    let low : c.copy_from_slice.new.self ≡ low_bytes 8 x = c.copy_from_slice.ensures.after ∙ c.to_le_bytes.ensures ∙ to_low 8 _ ∙ masked 8 64 refl x in
    let high : c.copy_from_slice-2.new.self ≡ low_bytes 8 (x / 2 ^ 64) = c.copy_from_slice-2.ensures.after ∙ c.to_le_bytes-2.ensures ∙ to_low 8 (x / 2 ^ 64) in
    rw (low, high) (sym (low_bytes-add 8 8 x))
