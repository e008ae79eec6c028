-- The loop's invariant: the defaults of the first i listed states are the patch's, the others the image's.
use mathlib.Core.Path.{◌≡◌}
use Prim.Native.Nat.{◌-◌, ◌≤◌}
use lib.ListN.{length}
use Rattle.paper.specs.Image.{image_view}
use Rattle.chains.specs.Sweeps.{Falls}
use Rattle.patch.proofs.Over.{Over}
use Rattle.overlaid.proofs.Defaults.{own_default}
use Rattle.overlaid.proofs.defaults_of.Given as goal

abbrev pub invariant-loop-i : goal.invariant-loop-i
invariant-loop-i l = (l.i ≤ l.p) × Falls (image_view l.image) l.n l.initial.def × (length l.initial.def ≡ 512) × Over l.x (own_default l.x) l.initial.def l.def l.i

abbrev pub decreases-loop-i : goal.decreases-loop-i
decreases-loop-i l = l.p - l.i
