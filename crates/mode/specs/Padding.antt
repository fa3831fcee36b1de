-- How nonce, associated data and message are brought to whole blocks of B bytes, and how a message is read back. ν, α and μ are the lengths of nonce, data and message in bits.
use Rattle.std.specs.Prelude.{ℕ, zero, suc, ◌+◌, ◌-◌, ◌*◌, ◌/◌, ◌^◌, Bool, cond, ◌&&◌, List, [], ◌∷◌, ◌++◌, length, take, replicate, Some, None, Option, ◌==◌, nat_le}
use Rattle.std.specs.Str.{bytes_eq}
use Rattle.words.specs.Bytes.{low_bytes}
use Rattle.mode.specs.Limits.{message_most, trailer_length}

-- the fewest blocks that hold n bytes
abbrev pub blocks_for : ℕ → ℕ → ℕ
blocks_for B n = (n + (B - 1)) / B

-- xs and the fewest zero bytes to whole blocks
unfoldable pub filled : ℕ → List ℕ → List ℕ
filled B xs = xs ++ replicate (blocks_for B (length xs) * B - length xs) 0

-- m₀: the nonce, and zero bytes up to a block
abbrev pub pad_nonce : ℕ → List ℕ → List ℕ
pad_nonce B N = N ++ replicate (B - length N) 0

-- pad(A): nothing for empty data; else the data, the byte 1 and zero bytes
abbrev pub pad_data : ℕ → List ℕ → List ℕ
pad_data B [] = []
pad_data B (a ∷ rest) = filled B ((a ∷ rest) ++ (1 ∷ []))

-- how many bits of the trailer hold ν
abbrev pub nonce_bits : ℕ → ℕ
nonce_bits B = cond (B == 16) 8 9

abbrev pub trailer_number : ℕ → ℕ → ℕ → ℕ → ℕ
trailer_number B ν α μ = ν + 2 ^ nonce_bits B * (α + 2 ^ 24 * (μ + 2 ^ 64))

unfoldable pub trailer : ℕ → ℕ → ℕ → ℕ → List ℕ
trailer B ν α μ = low_bytes trailer_length (trailer_number B ν α μ)

-- pad(M): the message, its trailer and zero bytes
unfoldable pub pad_message : ℕ → ℕ → ℕ → List ℕ → List ℕ
pad_message B ν α M = filled B (M ++ trailer B ν α (8 * length M))

-- whether p is the padding of its first n bytes
unfoldable pub pads_to : ℕ → ℕ → ℕ → List ℕ → ℕ → Bool
pads_to B ν α p n = nat_le n message_most && bytes_eq (pad_message B ν α (take n p)) p

-- the message of fewer than k bytes whose padding is p, if there is one
unfoldable pub unpadded_below : ℕ → ℕ → ℕ → List ℕ → ℕ → Option (List ℕ)
unpadded_below B ν α p zero = None
unpadded_below B ν α p (suc k) = cond (pads_to B ν α p k) (Some (take k p)) (unpadded_below B ν α p k)

-- the message whose padding is p, if there is one: it is shorter than p
unfoldable pub unpadded : ℕ → ℕ → ℕ → List ℕ → Option (List ℕ)
unpadded B ν α p = unpadded_below B ν α p (length p)
