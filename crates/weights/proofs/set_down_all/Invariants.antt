-- The invariant of the loop: the weights of the first j pairs are set down.
use Rattle.std.proofs.Common.{◌+◌, ◌*◌}
use Rattle.weights.specs.Laid.{Laid}
use Rattle.weights.proofs.set_down_all.Given as goal

abbrev pub invariant-loop-j : goal.invariant-loop-j
invariant-loop-j g l =
    Laid l.t.bytes.now l.t.n l.initial.weights l.initial.seen (l.u * 512 + l.v) → Laid l.t.bytes.now l.t.n l.weights l.seen (l.u * 512 + (l.v + l.j))
