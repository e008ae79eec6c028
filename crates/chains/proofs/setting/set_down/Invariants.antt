-- The setting down meets its contract. The invariant: i states of the climb are set down, there is room for all, and the next one, if there is one, is at hand.
use Prim.Native.Nat.{◌+◌, ◌-◌, ◌≤◌}
use Rattle.chains.proofs.Marks.{Marked, AtHand}
use Rattle.chains.proofs.setting.set_down.Given as goal

abbrev pub invariant-loop-i : goal.invariant-loop-i
invariant-loop-i l =
    (l.i ≤ l.t) × (l.filled + l.t ≤ l.n) × (l.n ≤ 512) × AtHand l.n l.def l.s l.t l.i l.cur × Marked l.n l.def l.initial.order l.initial.place l.filled l.s l.t l.order l.place l.i

abbrev pub decreases-loop-i : goal.decreases-loop-i
decreases-loop-i l = l.t - l.i
