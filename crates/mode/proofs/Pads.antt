-- Trailers and padding.
use Rattle.std.proofs.Common.{◌≡◌, ℕ, ◌+◌, ◌-◌, ◌*◌, ◌/◌, ◌%◌, ◌<◌, ◌≤◌, List, ◌++◌, length, take, replicate, sym, ap, ◌∙◌, add-mul, one-mul, div-mul-le_self, arith, length-append}
use native.Mathlib.Nat.{lt-div-mul-add, mod-add-div', div-eq_of_lt-le, div-div-eq-div-mul}
use Rattle.std.specs.Int.{w128, to_le_bytes}
use lib.ListN.{length-replicate}
use Rattle.words.specs.Bytes.{low_bytes}
use Rattle.words.proofs.Bytes.{length-low_bytes}
use Rattle.mode.specs.Padding.{blocks_for, filled, trailer, pad_message}
use Rattle.mode.specs.Sealing.{cipher_length}

-- the first 13 bytes of a number, as the code writes it out
pub low_thirteen : (n : ℕ) → take 13 (to_le_bytes w128 n) ≡ low_bytes 13 n
unfolding low_bytes
low_thirteen n = sym (simp div-div-eq-div-mul)

pub length-trailer : (B ν α μ : ℕ) → length (trailer B ν α μ) ≡ 13
unfolding trailer
length-trailer B ν α μ = length-low_bytes 13 _

-- the fewest blocks hold all, and no block too many
pub blocks_hold : (B m : ℕ) → 0 < B → (m ≤ blocks_for B m * B) × (blocks_for B m * B < m + B)
blocks_hold B m h =
    let a : m + (B - 1) < blocks_for B m * B + B = lt-div-mul-add {a = m + (B - 1)} {b = B} h in
    let b : blocks_for B m * B ≤ m + (B - 1) = div-mul-le_self (m + (B - 1)) B in
    (omega arith, omega arith)

-- what fills whole blocks, and is no block too long, fills the fewest
pub whole_is : (B m r : ℕ) → m ≤ r → r < m + B → r % B ≡ 0 → r ≡ blocks_for B m * B
whole_is B m r low high whole =
    let back : r / B * B ≡ r = omega (arith, mod-add-div' r B, whole) in
    let count : blocks_for B m ≡ r / B = div-eq_of_lt-le B (omega arith) (omega (arith, add-mul (r / B) 1 B, one-mul B)) in
    sym back ∙ ap (λ k. k * B) (sym count)

pub length-filled : (B : ℕ) (xs : List ℕ) → 0 < B → length (filled B xs) ≡ blocks_for B (length xs) * B
unfolding filled
length-filled B xs h =
    let b = blocks_hold B (length xs) h in
    length-append xs _ ∙ simp length-replicate (omega arith)

pub length-message : (B ν α : ℕ) (M : List ℕ) → length (M ++ trailer B ν α (8 * length M)) ≡ length M + 13
length-message B ν α M = length-append M _ ∙ ap (λ k. length M + k) (length-trailer B ν α (8 * length M))

pub length-pad_message : (B ν α : ℕ) (M : List ℕ) → 0 < B → length (pad_message B ν α M) ≡ cipher_length B (length M)
unfolding pad_message
length-pad_message B ν α M h = length-filled B _ h ∙ ap (λ k. blocks_for B k * B) (length-message B ν α M)

pub pad_message_is : (B ν α : ℕ) (M : List ℕ) → pad_message B ν α M ≡ (M ++ trailer B ν α (8 * length M)) ++ replicate (cipher_length B (length M) - (length M + 13)) 0
unfolding pad_message filled
pad_message_is B ν α M = ap (λ k. (M ++ trailer B ν α (8 * length M)) ++ replicate (blocks_for B k * B - k) 0) (length-message B ν α M)
