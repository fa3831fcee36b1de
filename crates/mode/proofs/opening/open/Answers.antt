use Rattle.std.proofs.Common.{◌≡◌, ◌≤◌, ◌++◌, length, drop, Err, sym, ap, ◌∙◌, arith, length-take-le}
use Rattle.std.proofs.lemmas.Bool.Decides.{nat_tests}
use Rattle.std.proofs.lemmas.Result.{err_from_is_err_and}
use Rattle.mixers.specs.Blocks.{over}
use Rattle.mode.specs.Opening.{opens, cipher_check, open_leaves, message_answer, message_text, answered, left_in}
use Rattle.mode.proofs.Admits.{passes_on, admitted_by}
use Rattle.mode.proofs.Opened.{opens-sealed}
use Rattle.mode.proofs.opening.open.Goals as goal

pub returns-in_err-check_lengths-clause-exactly : goal.returns-in_err-check_lengths-clause-exactly
returns-in_err-check_lengths-clause-exactly g c =
    let f = g.M.Mixer.mixing c.args.mixer.now in
    let s = c.args.setting in
    let C = c.args.cipher.now in
    let T = c.args.tag.now in
    let xs = c.args.text.now in
    let m = opens f g.row.B s.key.now s.nonce.now s.ad.now C T in
    let a = admitted_by g.row.B c.in_ok-under.under s c.in_ok-under.ensures in
    let p = err_from_is_err_and c.from_residual-in_err-check_lengths.result c.from_residual-in_err-check_lengths.ensures.1 in
    let refused = sym c.in_err-check_lengths.was ∙ c.check_lengths.ensures ∙ sym (passes_on g.row.B (length s.key.now) (length s.nonce.now) (length s.ad.now) (cipher_check g.row.B (length C) (length T) (length xs)) a.key a.nonce a.«data») in
    opens-sealed f g.row.B _ (g.M.Mixer.laws c.args.mixer.now) s.key.now s.nonce.now s.ad.now C T xs _ xs (p.1 ∙ ap Err p.2 ∙ ap (λ k. answered k m) refused) (ap (λ k. left_in k (length C) m xs) refused)

pub returns : goal.returns
returns g c =
    let f = g.M.Mixer.mixing c.args.mixer.now in
    let s = c.args.setting in
    let C = c.args.cipher.now in
    let T = c.args.tag.now in
    let xs = c.args.text.now in
    let n = length C in
    let end = c.open_guarded.new.text in
    let m = opens f g.row.B s.key.now s.nonce.now s.ad.now C T in
    let setting = c.in_ok-under.ensures in
    let a = admitted_by g.row.B c.in_ok-under.under s setting in
    let ok = c.in_ok-check_lengths.ensures ∙ sym (passes_on g.row.B (length s.key.now) (length s.nonce.now) (length s.ad.now) (cipher_check g.row.B n (length T) (length xs)) a.key a.nonce a.«data») in
    let e = c.open_guarded.ensures in
    let answer = e.answer ∙ ap (λ v. message_answer (opens f g.row.B v.key.now v.nonce.now v.ad.now C T)) setting ∙ ap (λ k. answered k m) ok in
    let text : end ≡ message_text n m = e.text ∙ ap (λ v. message_text n (opens f g.row.B v.key.now v.nonce.now v.ad.now C T)) setting in
    let checked = c.in_ok-check_lengths.ensures in
    let room : n ≤ length xs = grind (arith, nat_tests) in
    let size : n ≡ length end = omega (arith, c.open_guarded.auto.text, length-take-le n xs room) in
    let buffer : end ++ drop n xs ≡ open_leaves f g.row.B s.key.now s.nonce.now s.ad.now C T xs = ap (λ k. end ++ drop k xs) size ∙ ap (λ t. over t xs) text ∙ ap (λ k. left_in k n m xs) ok in
    record {
      answer = answer;
      buffer = buffer;
      exactly = opens-sealed f g.row.B _ (g.M.Mixer.laws c.args.mixer.now) s.key.now s.nonce.now s.ad.now C T xs _ (end ++ drop n xs) answer buffer;
    }
