-- The limits of the mode, in bytes.
use Rattle.std.specs.Prelude.{ℕ}

-- the longest associated data
abbrev pub data_most : ℕ
data_most = 4096

-- the longest message
abbrev pub message_most : ℕ
message_most = 65536

-- the trailer that ends every padded message
abbrev pub trailer_length : ℕ
trailer_length = 13
