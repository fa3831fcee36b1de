-- Worked examples: what the definitions give for values that can be checked with a pencil, or by a program of a few lines.
use Rattle.std.specs.Prelude.{◌≡◌, ℕ, ◌*◌, List, [], ◌∷◌, ◌++◌, replicate, bit_xor}
use Rattle.std.specs.List.{range_with_len}
use Rattle.words.specs.declared.Group.{Group}
use Rattle.words.specs.Bytes.{low_bytes, xor_bytes}
use Rattle.words.specs.Diffusion.{diffused}
use Rattle.words.specs.Linear.{narrow_second, narrow_third, wide_second, wide_third}
use Rattle.words.specs.Sbox.{sbox_of}
use Rattle.artemia.specs.Artemia.{permuted, narrow, wide}
use Rattle.mixers.specs.Blocks.{block_of}
use Rattle.mixers.specs.Exchange.{exchanged, exchange_mark}
use Rattle.mixers.specs.Halves.{Halves, halves}
use Rattle.mixers.specs.Permutations.{narrow_mixing, wide_mixing, narrow_mark, wide_mark}
use Rattle.mode.specs.Padding.{pad_nonce, pad_data, trailer}
use Rattle.mode.specs.Sealing.{cipher_text, cipher_tag, cipher_length, seal_leaves}

-- a function on states that, other than the exchange, brings each block of the chain into what follows: x'‖x becomes (x' ⊕ x)‖x'
abbrev pub stirred : Halves → Halves
stirred s = halves (xor_bytes s.upper s.lower) s.upper

-- C and T of the exchange under a key of sixteen bytes 0x11, with nonce, data and message empty
abbrev pub exchange_example : List ℕ
exchange_example = replicate 12 0x11 ++ (0x10 ∷ 0x11 ∷ 0x11 ∷ 0x11 ∷ replicate 16 0)

-- a state whose bytes are all unlike: from 0x20 on in the upper block, from 0x40 on in the lower
abbrev pub unlike : ℕ → Halves
unlike B = halves (block_of B (range_with_len 0x20 32)) (block_of B (range_with_len 0x40 32))

-- what the three mixers make of it
abbrev pub exchange_of_unlike : Halves
exchange_of_unlike = halves (range_with_len 0x40 16) (range_with_len 0x20 16)

abbrev pub narrow_of_unlike : Halves
narrow_of_unlike = halves (low_bytes 16 0xb623e4ea9c98094860bd49c58fbf2860) (low_bytes 16 0x634b63f9e133251b3719c179ab38f17c)

abbrev pub wide_of_unlike : Halves
wide_of_unlike = halves (low_bytes 32 0xfe2d0671271663e0587c097fee1bfc53a0c88620167d5725bff7e117bcc817b5) (low_bytes 32 0x50a97359ccd37ec4e6807ab6dc854d0ee6a630149c1e272987ea6ea368575161)

-- four numbers as one group
abbrev group : ℕ → ℕ → ℕ → ℕ → Group ℕ
group a b c d = record { x0 = a; x1 = b; x2 = c; x3 = d }

pub record WorkedExamples : Type 0 where
  -- the S-box, and the linear map L of three of the diffusions
  pub s_of_b2 : sbox_of 0xb2 ≡ 0x37
  pub narrow_second_map : narrow_second 0x8000 ≡ 0x4000
  pub narrow_third_map : narrow_third 0x08 ≡ 0x11
  pub wide_third_map : wide_third 0x80 ≡ 0x01
  -- the four-word rule at X = (1, 0, 0, 0)
  pub wide_second_rule : diffused bit_xor wide_second (group 1 0 0 0) ≡ group 1 3 4 0xd
  pub narrow_second_rule : diffused bit_xor narrow_second (group 1 0 0 0) ≡ group 1 3 5 0xc
  pub wide_third_rule : diffused bit_xor wide_third (group 1 0 0 0) ≡ group 0x01 0x07 0x14 0x6d
  -- the permutations of a state of zero bytes, as one number
  pub narrow_of_zeros : permuted narrow (replicate 32 0) ≡ low_bytes 32 0x3a9eabbccd33af7fecf1abe96cadc1b67d790abd626d33e26f0cfc7e605827c7
  pub wide_of_zeros : permuted wide (replicate 64 0) ≡ low_bytes 64 0xe51ffef4d4ccbd041ec980258b26cba874a3282c1831aa4bca57519eac03997172812271abc8dd3b160d177a9a19cb97bb20540ec5af1047f73a19651b16018b
  -- the mixers of a state of unlike bytes, and their marks
  pub exchange_unlike : exchanged (unlike 16) ≡ exchange_of_unlike
  pub narrow_unlike : narrow_mixing (unlike 16) ≡ narrow_of_unlike
  pub wide_unlike : wide_mixing (unlike 32) ≡ wide_of_unlike
  pub mark_of_narrow : narrow_mark ≡ 1
  pub mark_of_wide : wide_mark ≡ 2
  pub mark_of_exchange : exchange_mark ≡ 3
  -- the block of a string that is longer, and of one that is shorter
  pub block_of_longer : block_of 2 (1 ∷ 2 ∷ 3 ∷ []) ≡ 1 ∷ 2 ∷ []
  pub block_of_shorter : block_of 3 (1 ∷ []) ≡ 1 ∷ 0 ∷ 0 ∷ []
  -- messages of 3 and 4 bytes are one and two blocks of 16 bytes, of 19 and 20 one and two of 32
  pub length_of_three : cipher_length 16 3 ≡ 16
  pub length_of_four : cipher_length 16 4 ≡ 32
  pub length_of_nineteen : cipher_length 32 19 ≡ 32
  pub length_of_twenty : cipher_length 32 20 ≡ 64
  -- the trailer for a nonce of 8 bytes, data of 10 and a message of 51, at both block lengths
  pub trailer_at_16 : trailer 16 (8 * 8) (8 * 10) (8 * 51) ≡ 0x40 ∷ 0x50 ∷ 0 ∷ 0 ∷ 0x98 ∷ 0x01 ∷ 0 ∷ 0 ∷ 0 ∷ 0 ∷ 0 ∷ 0 ∷ 1 ∷ []
  pub trailer_at_32 : trailer 32 (8 * 8) (8 * 10) (8 * 51) ≡ 0x40 ∷ 0xa0 ∷ 0 ∷ 0 ∷ 0x30 ∷ 0x03 ∷ 0 ∷ 0 ∷ 0 ∷ 0 ∷ 0 ∷ 0 ∷ 2 ∷ []
  -- a nonce of two bytes; data of none, of two bytes and of a whole block
  pub nonce_of_two : pad_nonce 16 (0x22 ∷ 0x23 ∷ []) ≡ 0x22 ∷ 0x23 ∷ replicate 14 0
  pub data_of_none : pad_data 16 [] ≡ []
  pub data_of_two : pad_data 16 (0x33 ∷ 0x34 ∷ []) ≡ 0x33 ∷ 0x34 ∷ 1 ∷ replicate 13 0
  pub data_of_a_block : pad_data 16 (replicate 16 0x33) ≡ replicate 16 0x33 ++ (1 ∷ replicate 15 0)
  -- the exchange
  pub exchange_cipher : cipher_text exchanged 16 (replicate 16 0x11) [] [] [] ≡ replicate 12 0x11 ++ (0x10 ∷ 0x11 ∷ 0x11 ∷ 0x11 ∷ [])
  pub exchange_tag : cipher_tag exchanged 16 (replicate 16 0x11) [] [] [] ≡ replicate 16 0
  pub exchange_sealed : seal_leaves exchanged 16 (replicate 16 0x11) [] [] [] (replicate 32 0) ≡ exchange_example
  -- two blocks of data and two of message: key 0x11, nonce 0x22, data 0x33 and message 0x44, so many times each
  pub cipher_at_16 : cipher_text stirred 16 (replicate 16 0x11) (replicate 1 0x22) (replicate 16 0x33) (replicate 4 0x44) ≡ (0x76 ∷ 0x77 ∷ 0x77 ∷ 0x77 ∷ 0x3b ∷ 0xb3 ∷ 0x33 ∷ 0x33 ∷ 0x13 ∷ []) ++ (replicate 7 0x33 ++ ((0x77 ∷ 0x55 ∷ 0x55 ∷ 0x55 ∷ 0x19 ∷ 0x91 ∷ 0x11 ∷ 0x11 ∷ 0x31 ∷ []) ++ replicate 7 0x11))
  pub tag_at_16 : cipher_tag stirred 16 (replicate 16 0x11) (replicate 1 0x22) (replicate 16 0x33) (replicate 4 0x44) ≡ (0x67 ∷ 0x44 ∷ 0x44 ∷ 0x44 ∷ 0x08 ∷ 0x80 ∷ 0x00 ∷ 0x00 ∷ 0x20 ∷ []) ++ replicate 7 0x00
  pub cipher_at_32 : cipher_text stirred 32 (replicate 32 0x11) (replicate 2 0x22) (replicate 3 0x33) (replicate 20 0x44) ≡ (0x44 ∷ 0x44 ∷ 0x66 ∷ 0x54 ∷ []) ++ (replicate 16 0x55 ++ ((0x01 ∷ 0x21 ∷ 0x11 ∷ 0x11 ∷ 0x51 ∷ 0x10 ∷ []) ++ (replicate 6 0x11 ++ ((0x75 ∷ 0x77 ∷ 0x77 ∷ 0x45 ∷ []) ++ (replicate 16 0x44 ++ ((0x10 ∷ 0x30 ∷ 0x00 ∷ 0x00 ∷ 0x40 ∷ 0x01 ∷ []) ++ replicate 6 0x00))))))
  pub tag_at_32 : cipher_tag stirred 32 (replicate 32 0x11) (replicate 2 0x22) (replicate 3 0x33) (replicate 20 0x44) ≡ (0x66 ∷ 0x66 ∷ 0x66 ∷ 0x54 ∷ []) ++ (replicate 16 0x55 ++ ((0x01 ∷ 0x21 ∷ 0x11 ∷ 0x11 ∷ 0x51 ∷ 0x10 ∷ []) ++ replicate 6 0x11))
