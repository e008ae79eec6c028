-- The invariants: the classes before c with equal next states are counted for all N states, and in the inner loop the class c for the first j of them.
use Rattle.std.proofs.Common.{◌+◌}
use Rattle.weights.specs.Weighed.{agree}
use Rattle.weights.proofs.Counting.{Counts}
use Rattle.weights.proofs.shared_with.Given as goal

abbrev pub invariant-loop-j : goal.invariant-loop-j
invariant-loop-j g l = Counts (λ i. agree l.t.bytes.now l.u (l.v + i)) g.row.N l.c l.j l.same

abbrev pub invariant-loop-c : goal.invariant-loop-c
invariant-loop-c g l = Counts (λ i. agree l.t.bytes.now l.u (l.v + i)) g.row.N l.c 0 l.same
