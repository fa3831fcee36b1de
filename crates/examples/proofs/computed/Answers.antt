use Rattle.std.proofs.Common.{refl}
use Rattle.words.specs.Bytes.{low_bytes, value}
use Rattle.words.specs.Diffusion.{diffused}
use Rattle.words.specs.Sbox.{sbox_of}
use Rattle.artemia.specs.Artemia.{parts, cut, joined, four, two, added, round, rounds, permuted}
use Rattle.mode.specs.Padding.{filled, trailer, pad_message}
use Rattle.mode.specs.Sealing.{data_state, data_prev, cipher_text, cipher_tag}
use Rattle.examples.proofs.computed.Goals as goal

pub returns : goal.returns
unfolding diffused sbox_of permuted rounds round parts four two joined cut added value filled low_bytes trailer pad_message data_state data_prev cipher_text cipher_tag
returns c = record {
  s_of_b2 = refl;
  narrow_second_map = refl;
  narrow_third_map = refl;
  wide_third_map = refl;
  wide_second_rule = refl;
  narrow_second_rule = refl;
  wide_third_rule = refl;
  narrow_of_zeros = refl;
  wide_of_zeros = refl;
  exchange_unlike = refl;
  narrow_unlike = refl;
  wide_unlike = refl;
  mark_of_narrow = refl;
  mark_of_wide = refl;
  mark_of_exchange = refl;
  block_of_longer = refl;
  block_of_shorter = refl;
  length_of_three = refl;
  length_of_four = refl;
  length_of_nineteen = refl;
  length_of_twenty = refl;
  trailer_at_16 = refl;
  trailer_at_32 = refl;
  nonce_of_two = refl;
  data_of_none = refl;
  data_of_two = refl;
  data_of_a_block = refl;
  exchange_cipher = refl;
  exchange_tag = refl;
  exchange_sealed = refl;
  cipher_at_16 = refl;
  tag_at_16 = refl;
  cipher_at_32 = refl;
  tag_at_32 = refl;
}
