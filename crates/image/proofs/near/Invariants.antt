-- The loop's invariant: the classes of the first low entries are below the class, those from high on are not, and low ≤ high ≤ count.
use Prim.Native.Nat.{ℕ, ◌≤◌, ◌<◌, ◌-◌}
use Rattle.image.specs.Laid.{Under}
use Rattle.image.proofs.Rows.{class_at}
use Rattle.image.proofs.near.Given as goal

abbrev pub invariant-loop-low : goal.invariant-loop-low
invariant-loop-low l = Under l.row l.count l.class l.low × (l.low ≤ l.high) × (l.high ≤ l.count) × ((i : ℕ) → l.high ≤ i → i < l.count → l.class ≤ class_at l.row i)

abbrev pub decreases-loop-low : goal.decreases-loop-low
decreases-loop-low l = l.high - l.low
