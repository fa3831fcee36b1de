-- Blocks, and what a write leaves.
use Rattle.std.specs.Prelude.{ℕ, ◌-◌, List, ◌++◌, length, take, drop, replicate}

-- the block of n bytes that begins as xs does, with zeros where xs is shorter
abbrev pub block_of : ℕ → List ℕ → List ℕ
block_of n xs = take n xs ++ replicate (n - length xs) 0

-- ys written over the front of xs
abbrev pub over : List ℕ → List ℕ → List ℕ
over ys xs = ys ++ drop (length ys) xs
