use Rattle.std.proofs.Common.{◌≡◌, map, drop}
use Rattle.artemia.specs.Artemia.{rounds}
use Rattle.artemia.specs.Lanes.{laid, constant_of}
use Rattle.artemia.proofs.rounds.rounds.Given as goal

-- what is left to do gives the whole run
abbrev pub invariant-loop-c : goal.invariant-loop-c
invariant-loop-c g l =
    let m = g.W.Lane in
    rounds m.kind (map (constant_of m.kind.first_bytes) (drop l.c-index l.constants)) (laid m.held l.state)
    ≡ rounds m.kind (map (constant_of m.kind.first_bytes) l.constants) (laid m.held l.initial.state)
