-- The loop's invariant: the room keeps its length, and the first i bytes are placed in it.
use Rattle.std.proofs.Common.{◌≡◌, ◌-◌, ◌≤◌, length, take, drop}
use Rattle.words.specs.Placed.{placed}
use Rattle.words.proofs.copy.Given as goal

abbrev pub invariant-loop-i : goal.invariant-loop-i
invariant-loop-i l = (l.i ≤ l.count) × (length l.room ≡ length l.initial.room) × (l.room ≡ placed l.initial.room l.at (take l.i (drop l.start l.from)))

abbrev pub decreases-loop-i : goal.decreases-loop-i
decreases-loop-i l = l.count - l.i
