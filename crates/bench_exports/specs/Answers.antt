-- The code and the length that stand for an answer outside of the program.
use Rattle.std.specs.Prelude.{ℕ, Ok, Err, Result}
use Rattle.std.specs.Result.{result_map_both}
use Rattle.mode.specs.Faults.{code_of}
use Rattle.mode.specs.declared.fault.Fault.{Fault}

-- 0 where nothing is refused
abbrev pub code_in : {X : Type 0} → Result X Fault → ℕ
code_in (Ok x) = 0
code_in (Err e) = code_of e

-- 0 where it is refused
abbrev pub length_in : Result ℕ Fault → ℕ
length_in (Ok n) = n
length_in (Err e) = 0

-- the second of two lengths
abbrev pub all_in : Result (ℕ × ℕ) Fault → Result ℕ Fault
all_in answer = result_map_both (λ lengths. lengths.1) (λ e. e) answer
