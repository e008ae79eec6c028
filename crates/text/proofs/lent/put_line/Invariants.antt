-- The loop's invariant: of what stands behind the first number the numbers before i are put, and what stands behind them is to come.
use Prim.Native.Nat.{◌-◌, ◌≤◌}
use lib.ListN.{length, drop}
use Rattle.text.proofs.Puts.{SoFar}
use Rattle.text.proofs.Line.{behind}
use Rattle.text.proofs.lent.put_line.Given as goal

abbrev pub invariant-loop-i : goal.invariant-loop-i
invariant-loop-i l = (l.i ≤ length l.numbers) × SoFar l.initial.out l.initial.here (behind (drop 1 l.numbers)) l.out l.here (behind (drop l.i l.numbers))

abbrev pub decreases-loop-i : goal.decreases-loop-i
decreases-loop-i l = length l.numbers - l.i
