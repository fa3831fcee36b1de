use Rattle.std.proofs.Common.{◌≡◌}
use Rattle.std.specs.Slice.Iter.{chunks_exact_rest, chunks_exact_size}
use Rattle.mixers.specs.View.{view}
use Rattle.mode.specs.Steps.{seal_step}
use Rattle.mode.proofs.Loops.{Reads}
use Rattle.mode.proofs.chain.Chain.absorb_data.Given as goal

abbrev pub invariant-loop-block : goal.invariant-loop-block
invariant-loop-block g l =
    (chunks_exact_size l.block-iterator ≡ g.row.B)
    × Reads (seal_step (g.M.Mixer.mixing l.mixer)) g.row.B (view l.self.state) l.self.prev.bytes (chunks_exact_rest l.block-iterator) (view l.fn.self.state) l.fn.self.prev.bytes l.ad
