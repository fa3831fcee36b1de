use Rattle.std.proofs.Common.{◌≡◌, ◌-◌, ◌≤◌, length, take, Err, replicate, refl, sym, ap, ◌∙◌, arith, rules}
use Rattle.std.proofs.lemmas.Result.{err_from_is_err_and}
use Rattle.mode.specs.Opening.{opens, opened_blocks, message_answer, message_text}
use Rattle.mode.proofs.Admits.{admitted_by}
use Rattle.mode.proofs.Opened.{judged-opens, answer_err, answer_ok, front, zeros_behind}
use Rattle.mode.proofs.setting.Admitted.open_guarded.Goals as goal

pub returns-in_err-len : goal.returns-in_err-len
returns-in_err-len g c =
    let f = g.M.Mixer.mixing c.args.mixer.now in
    let s = c.args.self.now.setting in
    let C = c.args.cipher.now in
    let o = opens f g.row.B s.key.now s.nonce.now s.ad.now C c.args.tag.now in
    let e = c.write_opened-expected.ensures in
    let j = judged-opens f g.row.B s.key.now s.nonce.now s.ad.now C c.args.tag.now c.write_opened-expected.result.bytes c.text.result.now e.tag (c.text.ensures ∙ e.text) in
    let err = ap message_answer (sym j) ∙ sym c.judge.ensures.answer ∙ c.in_err-len.was in
    let p = err_from_is_err_and c.from_residual.result c.from_residual.ensures.1 in
    let size : length c.write_opened-expected.new.text ≡ length C = c.write_opened-expected.auto.text ∙ c.requires.text in
    record {
      answer = p.1 ∙ ap Err p.2 ∙ sym err;
      text = c.drop-guard.ensures ∙ ap (λ k. replicate k 0) size ∙ ap (message_text (length C)) (sym (answer_err o _ err));
    }

pub returns : goal.returns
returns g c =
    let f = g.M.Mixer.mixing c.args.mixer.now in
    let u = c.args.self.now in
    let s = u.setting in
    let law = g.M.Mixer.laws c.args.mixer.now in
    let admitted = admitted_by g.row.B u s refl in
    let C = c.args.cipher.now in
    let T = c.args.tag.now in
    let k = c.in_ok-len.len in
    let P = c.write_opened-expected.new.text in
    let o = opens f g.row.B s.key.now s.nonce.now s.ad.now C T in
    let e = c.write_opened-expected.ensures in
    let j = judged-opens f g.row.B s.key.now s.nonce.now s.ad.now C T c.write_opened-expected.result.bytes c.text.result.now e.tag (c.text.ensures ∙ e.text) in
    let ok = ap message_answer (sym j) ∙ sym c.judge.ensures.answer ∙ c.in_ok-len.was in
    let found = answer_ok o k ok in
    let M = found.0 in
    let size : length P ≡ length C = c.write_opened-expected.auto.text ∙ c.requires.text in
    let here : take k P ≡ M = ap (take k) e.text ∙ ap (λ n. take n (opened_blocks f g.row.B s.key.now s.nonce.now s.ad.now C)) (sym found.1.1) ∙ front f g.row.B _ law s.key.now s.nonce.now s.ad.now admitted C T M found.1.0 in
    let fits : k ≤ length C = omega (arith, c.in_ok-len.ensures.within, ap length c.text.ensures, size) in
    let zs : c.fill.new.self ≡ replicate (length C - k) 0 = search rules in
    record {
      answer = sym ok;
      text = c.release.ensures ∙ zeros_behind M P c.fill.new.self (length C) k size found.1.1 here fits zs ∙ ap (message_text (length C)) (sym found.1.0);
    }
