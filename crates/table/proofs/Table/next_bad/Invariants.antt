-- The loop's invariant: the largest number of the first j cells.
use Rattle.std.proofs.Common.{◌≡◌}
use Rattle.paper.specs.Below.{largest}
use Rattle.table.proofs.Next.{cell}
use Rattle.table.proofs.Table.next_bad.Given as goal

abbrev pub invariant-loop-j : goal.invariant-loop-j
invariant-loop-j l = l.most ≡ largest l.j (cell l.t l.n l.self.k)
