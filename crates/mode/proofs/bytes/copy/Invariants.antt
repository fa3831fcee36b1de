use Rattle.std.proofs.Common.{◌≡◌}
use lib.Seq.{paste}
use Rattle.mode.proofs.bytes.copy.Given as goal

abbrev pub invariant-loop-i : goal.invariant-loop-i
invariant-loop-i l = l.out ≡ paste l.initial.out 0 l.bytes l.i
