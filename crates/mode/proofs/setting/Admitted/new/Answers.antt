use Rattle.std.proofs.Common.{arith}
use Rattle.mode.proofs.setting.Admitted.new.Goals as goal

pub invariant_of-result-clause-some : goal.invariant_of-result-clause-some
invariant_of-result-clause-some g c = omega (arith, (g.M.Mixer.laws c.args.mixer.now).width)

pub invariant_of-result-clause-few : goal.invariant_of-result-clause-few
invariant_of-result-clause-few g c = omega (arith, (g.M.Mixer.laws c.args.mixer.now).width)
