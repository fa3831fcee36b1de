use Rattle.std.proofs.Common.{◌∙◌}
use Rattle.mode.specs.Opening.{opened_blocks, opened_tag}
use Rattle.mode.proofs.setting.Admitted.write_opened.Goals as goal

pub returns : goal.returns
unfolding opened_blocks opened_tag
returns g c =
    let e = c.begin-chain.ensures in
    let t = c.turn_all.ensures in
    let C = c.copy.ensures in
    record {
      tag = c.tag.ensures ∙ rw (t.state, t.prev, e.state, e.prev, C);
      text = t.out ∙ rw (e.state, e.prev, C);
    }
