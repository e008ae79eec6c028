-- The loop's invariant: the largest next state of the first j entries.
use mathlib.Core.Path.{◌≡◌}
use Prim.Native.Nat.{◌-◌, ◌≤◌, ◌<◌}
use Rattle.paper.specs.Below.{largest}
use Rattle.contents.proofs.Entries.{next_of}
use Rattle.contents.proofs.in_entries.next_bad.Given as goal

abbrev pub invariant-loop-j : goal.invariant-loop-j
invariant-loop-j l = l.most ≡ largest l.j (next_of l.b)
