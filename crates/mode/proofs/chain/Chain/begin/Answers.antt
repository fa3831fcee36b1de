use Rattle.std.proofs.Common.{◌≡◌, ap, ◌∙◌}
use Rattle.mixers.specs.Halves.{halves}
use Rattle.mixers.proofs.Blocks.{block_of_short, block_of_whole}
use Rattle.mode.specs.Padding.{pad_nonce, pad_data}
use Rattle.mode.specs.Sealing.{data_state, data_prev}
use Rattle.mode.specs.Steps.{seal_step, all_state, all_prev}
use Rattle.mode.proofs.chain.Chain.begin.Goals as goal

pub returns : goal.returns
unfolding data_state data_prev
returns g c =
    let B = g.row.B in
    let f = g.M.Mixer.mixing c.args.mixer.now in
    let u = c.args.under.now in
    let A = u.setting.ad.now in
    let K = u.setting.key.now in
    let N = u.setting.nonce.now in
    let l = c.of-2.result.bytes in
    let first : c.of.result.bytes ≡ pad_nonce B N = c.of.ensures ∙ block_of_short B N u.nonce in
    let key : l ≡ K = c.of-2.ensures ∙ block_of_whole B K u.key in
    record {
      state = c.absorb_data.ensures.state ∙ ap (λ x. all_state (seal_step f) B (halves x l) x (pad_data B A)) first ∙ ap (λ x. all_state (seal_step f) B (halves (pad_nonce B N) x) (pad_nonce B N) (pad_data B A)) key;
      prev = c.absorb_data.ensures.prev ∙ ap (λ x. all_prev (seal_step f) B (halves x l) x (pad_data B A)) first ∙ ap (λ x. all_prev (seal_step f) B (halves (pad_nonce B N) x) (pad_nonce B N) (pad_data B A)) key;
    }
