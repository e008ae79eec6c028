-- The invariant of all loops: the weights of the pairs before the one looked at are set down.
use Rattle.std.proofs.Common.{◌+◌, ◌*◌}
use Rattle.weights.specs.Laid.{Laid}
use Rattle.weights.proofs.weigh_all.Given as goal

abbrev pub invariant-loop-i : goal.invariant-loop-i
invariant-loop-i l = Laid l.t.bytes.now l.t.n l.weights l.seen (l.u * 512 + (l.first + 4 * l.i))

abbrev pub invariant-loop-v : goal.invariant-loop-v
invariant-loop-v l = Laid l.t.bytes.now l.t.n l.weights l.seen (l.u * 512 + l.v)

abbrev pub invariant-loop-u : goal.invariant-loop-u
invariant-loop-u l = Laid l.t.bytes.now l.t.n l.weights l.seen (l.u * 512)
