use Rattle.std.proofs.Common.{◌/◌, length}
use Rattle.mixers.specs.View.{view}
use Rattle.mode.proofs.Loops.{Runs}
use Rattle.mode.proofs.chain.Chain.turn_all.Given as goal

abbrev pub invariant-loop-i : goal.invariant-loop-i
invariant-loop-i g l =
    Runs (g.W.Way.step (g.M.Mixer.mixing l.mixer)) g.row.B (length l.initial.text / g.row.B) l.i (view l.self.state) l.self.prev.bytes l.text (view l.initial.self.state) l.initial.self.prev.bytes l.initial.text
