-- The block of a string that is not longer than one.
use Rattle.std.proofs.Common.{◌≡◌, ℕ, ◌-◌, ◌≤◌, List, ◌++◌, length, replicate, ap, ◌∙◌, append-nil, arith}
use Rattle.std.proofs.lemmas.List.{take_all}
use Rattle.mixers.specs.Blocks.{block_of}

-- the block of what is not longer than one, and of what is just as long
pub block_of_short : (n : ℕ) (xs : List ℕ) → length xs ≤ n → block_of n xs ≡ xs ++ replicate (n - length xs) 0
block_of_short n xs h = ap (λ z. z ++ replicate (n - length xs) 0) (take_all n xs h)

pub block_of_whole : (n : ℕ) (xs : List ℕ) → length xs ≡ n → block_of n xs ≡ xs
block_of_whole n xs e =
    let none : n - length xs ≡ 0 = omega arith in
    block_of_short n xs (omega arith) ∙ ap (λ k. xs ++ replicate k 0) none ∙ append-nil xs
