-- The loop's invariant: the entries of the states before `done` are placed, and end at `here`; the first i listed states are among them, and the others are not.
use Prim.Native.Nat.{◌-◌, ◌≤◌}
use Rattle.paper.specs.Results.{entry_bytes}
use Rattle.paper.specs.Patch.{patched_view}
use Rattle.words.proofs.Laid.{Laid}
use Rattle.apply.proofs.Gaps.{Between}
use Rattle.apply.proofs.put_entries.Given as goal

abbrev pub invariant-loop-i : goal.invariant-loop-i
invariant-loop-i l = Between l.x l.i l.done × (l.done ≤ l.n) × Laid l.initial.room l.at (entry_bytes (patched_view l.image l.x)) l.done l.room l.here

abbrev pub decreases-loop-i : goal.decreases-loop-i
decreases-loop-i l = l.p - l.i
