-- The sweep meets its contract. The invariant: what the chains of the states at the places passed give is set down.
use Prim.Native.Nat.{◌-◌, ◌≤◌}
use mathlib.Core.Path.{◌≡◌}
use lib.ListN.{length}
use Rattle.chains.specs.Sweeps.{kept_at}
use Rattle.chains.proofs.Done.{Done}
use Rattle.chains.proofs.Sweeps.{ServedWithin}
use Rattle.chains.proofs.resolve.Given as goal

abbrev pub invariant-loop-i : goal.invariant-loop-i
invariant-loop-i l = (l.i ≤ l.n) × (length l.to ≡ 512) × (length l.hop ≡ 512) × Done (ServedWithin l.n l.def l.own l.i) l.order (kept_at l.to l.hop) l.i

abbrev pub decreases-loop-i : goal.decreases-loop-i
decreases-loop-i l = l.n - l.i
