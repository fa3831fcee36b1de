-- The steps of the mode over a mixer's function f, and byte strings that are put through them, n bytes to a block.
use Rattle.std.specs.Prelude.{ℕ, zero, suc, ◌/◌, List, ◌++◌, length, take, drop}
use Rattle.words.specs.Bytes.{xor_bytes}
use Rattle.mixers.specs.Halves.{Halves, halves}

-- What one step gives: the next state, the block m of this step, and the block that is written in place of the one that stood there. A block m is one of padded data or message.
pub record Turn : Type 0 where
  pub state : Halves
  pub prev : List ℕ
  pub block : List ℕ

abbrev pub turn : Halves → List ℕ → List ℕ → Turn
turn s p b = record { state = s; prev = p; block = b }

-- a step, from the state, the block m of the step before (m₀ at the first), and the block that stands there
abbrev pub Step : Type 0
Step = Halves → List ℕ → List ℕ → Turn

-- what both directions do first: y'‖(y ⊕ prev), with y'‖y = f (x'‖x)
abbrev pub advanced : (Halves → Halves) → Halves → List ℕ → Halves
advanced f s prev = halves (f s).upper (xor_bytes (f s).lower prev)

-- the ciphertext block is y' ⊕ m, and the next state (y' ⊕ m)‖(y ⊕ prev)
abbrev pub seal_step : (Halves → Halves) → Step
seal_step f s prev m = turn (halves (xor_bytes (advanced f s prev).upper m) (advanced f s prev).lower) m (xor_bytes (advanced f s prev).upper m)

-- the message block is y' ⊕ c, and the next state c‖(y ⊕ prev)
abbrev pub open_step : (Halves → Halves) → Step
open_step f s prev c = turn (halves c (advanced f s prev).lower) (xor_bytes (advanced f s prev).upper c) (xor_bytes (advanced f s prev).upper c)

-- a turn and then another: what the first writes stands before what the second writes
abbrev pub followed : Turn → Turn → Turn
followed t r = turn r.state r.prev (t.block ++ r.block)

-- the first k blocks of xs through the step g, as one turn: the state after them, the last block m (the one before them where k is 0), and xs with each block replaced, and what follows them as it was
abbrev pub run : Step → ℕ → ℕ → Halves → List ℕ → List ℕ → Turn
run g n zero s prev xs = turn s prev xs
run g n (suc k) s prev xs = followed (g s prev (take n xs)) (run g n k (g s prev (take n xs)).state (g s prev (take n xs)).prev (drop n xs))

abbrev pub run_out : Step → ℕ → ℕ → Halves → List ℕ → List ℕ → List ℕ
run_out g n k s prev xs = (run g n k s prev xs).block

abbrev pub run_state : Step → ℕ → ℕ → Halves → List ℕ → List ℕ → Halves
run_state g n k s prev xs = (run g n k s prev xs).state

abbrev pub run_prev : Step → ℕ → ℕ → Halves → List ℕ → List ℕ → List ℕ
run_prev g n k s prev xs = (run g n k s prev xs).prev

-- the same for all blocks of xs
abbrev pub all_out : Step → ℕ → Halves → List ℕ → List ℕ → List ℕ
all_out g n s prev xs = run_out g n (length xs / n) s prev xs

abbrev pub all_state : Step → ℕ → Halves → List ℕ → List ℕ → Halves
all_state g n s prev xs = run_state g n (length xs / n) s prev xs

abbrev pub all_prev : Step → ℕ → Halves → List ℕ → List ℕ → List ℕ
all_prev g n s prev xs = run_prev g n (length xs / n) s prev xs
