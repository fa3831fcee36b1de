use Rattle.std.proofs.Common.{◌≡◌, take, ap, ◌∙◌, rules}
use Rattle.words.specs.Bytes.{low_bytes}
use Rattle.mode.specs.Padding.{trailer}
use Rattle.mode.proofs.Pads.{low_thirteen}
use Rattle.mode.proofs.padding.Message.trailer.Goals as goal

pub returns : goal.returns
unfolding trailer
returns g c =
    let bytes : c.unwrap.result ≡ take 13 c.to_le_bytes.result = search rules in
    bytes ∙ ap (take 13) c.to_le_bytes.ensures ∙ low_thirteen c.trailer_number.result ∙ ap (low_bytes 13) c.trailer_number.ensures
