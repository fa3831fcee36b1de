use Rattle.std.proofs.Common.{◌≡◌, ◌*◌, ◌/◌, ◌<◌, length, drop, ap, ◌∙◌, arith, rules}
use native.Mathlib.Nat.{mod-add-div'}
use Rattle.mixers.specs.View.{view}
use Rattle.mixers.proofs.Blocks.{block_of_whole}
use Rattle.mode.specs.Steps.{seal_step, all_state, all_prev}
use Rattle.mode.proofs.Loops.{stands, reads_more, reads_all}
use Rattle.mode.proofs.Splits.{last_of, data_end}
use Rattle.mode.proofs.chain.Chain.absorb_data.Goals as goal

pub loop-block-preserved : goal.loop-block-preserved
loop-block-preserved g c =
    let n = g.row.B in
    let steps = c.in-Some.ensures.steps in
    let m = c.in-Some.block.now in
    let step = seal_step (g.M.Mixer.mixing c.args.mixer.now) in
    let s = view c.loop-block.self.state in
    let p = c.loop-block.self.prev.bytes in
    let whole : length m ≡ n = steps.1.1 ∙ c.loop-block.invariant.0 in
    let b : c.of.result.bytes ≡ m = c.of.ensures ∙ block_of_whole n m whole in (
      steps.0 ∙ c.loop-block.invariant.0,
      reads_more step n c.requires _ _ _ _ _ _ _ _ m _ c.loop-block.invariant.1 steps.1.0 whole (c.absorb.ensures.state ∙ ap (λ x. (step s p x).state) b) (c.absorb.ensures.prev ∙ b),
    )

pub returns-in-None : goal.returns-in-None
returns-in-None g c =
    let B = g.row.B in
    let A = c.args.ad.now in
    let step = seal_step (g.M.Mixer.mixing c.args.mixer.now) in
    let s = view c.args.self.now.state in
    let p = c.args.self.now.prev.bytes in
    let q = length A / B in
    let some : 0 < length A = search rules in
    let e = c.absorb-then-not-is_empty.ensures in
    let read = reads_all step B c.requires _ _ _ _ _ _ c.loop-block.invariant.1 (omega (arith, c.in-None.ensures.steps.1.0, c.loop-block.invariant.0)) in
    let rest : c.remainder.result.now ≡ drop (q * B) A = c.remainder.ensures ∙ c.chunks_exact-blocks.ensures.remainder ∙ ap (λ k. drop k A) (omega (arith, mod-add-div' (length A) B)) in
    let last : c.pad_rest-last.result.bytes ≡ last_of B (drop (q * B) A) = c.pad_rest-last.ensures ∙ ap (last_of B) rest in
    let end =
    ap (λ x. stands (step x.0 x.1 c.pad_rest-last.result.bytes)) read
    ∙ ap (λ x. stands (step (all_state step B s p A) (all_prev step B s p A) x)) last
    ∙ data_end step B A c.requires some s p in
    record { state = e.state ∙ ap (λ x. x.0) end; prev = e.prev ∙ ap (λ x. x.1) end }
