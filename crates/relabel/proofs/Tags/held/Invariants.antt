-- The loop's invariant: so many labels the states before s have, at most one each.
use mathlib.Core.Path.{◌≡◌}
use Prim.Native.Nat.{◌≤◌}
use lib.ListN.{length}
use Rattle.paper.specs.Below.{sum}
use Rattle.relabel.specs.Pieces.{numbered}
use Rattle.relabel.proofs.Tags.held.Given as goal

abbrev pub invariant-loop-s : goal.invariant-loop-s
invariant-loop-s l = (l.held ≡ sum l.s (λ s. length (numbered l.fn.self.image.now s))) × (l.held ≤ l.s)
