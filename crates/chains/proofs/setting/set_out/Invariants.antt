-- The setting out meets its contract. The invariant: each state below s has a place, and the states that have one stand in order.
use Prim.Native.Nat.{ℕ, ◌-◌, ◌≤◌, ◌<◌}
use Rattle.chains.specs.Orders.{defaults_view}
use Rattle.chains.specs.Places.{Unplaced, Laid}
use Rattle.chains.proofs.setting.set_out.Given as goal

abbrev pub invariant-loop-s : goal.invariant-loop-s
invariant-loop-s l = (l.s ≤ l.n) × (l.filled ≤ l.n) × Laid (defaults_view l.n l.def) l.order l.place l.filled × ((q : ℕ) → q < l.s → ¬ Unplaced l.place q)

abbrev pub decreases-loop-s : goal.decreases-loop-s
decreases-loop-s l = l.n - l.s
