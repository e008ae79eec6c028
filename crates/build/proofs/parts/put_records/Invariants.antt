-- The loop's invariant: the records of the states before s are placed.
use Prim.Native.Nat.{◌+◌, ◌-◌, ◌*◌, ◌≤◌}
use Rattle.build.specs.Pieces.{listed_record}
use Rattle.words.proofs.Laid.{Laid}
use Rattle.build.proofs.parts.put_records.Given as goal

abbrev pub invariant-loop-s : goal.invariant-loop-s
invariant-loop-s l = (l.s ≤ l.n) × Laid l.initial.room l.at (listed_record l.def l.counts) l.s l.room (l.at + 4 * l.s)

abbrev pub decreases-loop-s : goal.decreases-loop-s
decreases-loop-s l = l.n - l.s
