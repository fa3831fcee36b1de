use Rattle.std.proofs.Common.{◌≡◌, ◌+◌, ◌-◌, ◌*◌, ◌/◌, ◌≤◌, length, take, drop, ap, ◌∙◌, arith, length-drop, length-take, div-mul-le_self}
use Rattle.mixers.specs.View.{view}
use Rattle.mixers.proofs.Blocks.{block_of_whole}
use Rattle.std.proofs.lemmas.Nat.{row_fits}
use Rattle.mode.proofs.Loops.{runs_more}
use Rattle.mode.proofs.chain.Chain.turn_all.Goals as goal

pub loop-i-preserved : goal.loop-i-preserved
loop-i-preserved g c =
    let n = g.row.B in
    let a = c.loop-i.i * n in
    let xs = c.loop-i.text in
    let part = take (a + n - a) (drop a xs) in
    let s = view c.loop-i.self.state in
    let p = c.loop-i.self.prev.bytes in
    let step = g.W.Way.step (g.M.Mixer.mixing c.args.mixer.now) in
    let within : a + n ≤ length xs = omega (arith, row_fits c.loop-i.i n (length c.args.text.now / n) n c.loop-i-test.true (omega arith), c.loop-i.invariant.size, div-mul-le_self (length c.args.text.now) n) in
    let b : c.of.result.bytes ≡ part = c.of.ensures ∙ block_of_whole n part (simp (length-take, length-drop) (omega arith)) in
    let e = c.turn-turned.ensures in
    runs_more _ _ _ _ _ _ _ _ _ _ _ _ _ c.loop-i.invariant c.loop-i-test.true (div-mul-le_self (length c.args.text.now) n) c.copy_from_slice.ensures.len c.turn-turned.new.chain.prev.sized
    (e.state ∙ ap (λ x. (step s p x).state) b)
    (e.prev ∙ ap (λ x. (step s p x).prev) b)
    (c.copy_from_slice.ensures.after ∙ e.block ∙ ap (λ x. (step s p x).block) b)
