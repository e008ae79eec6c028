-- The invariant of the loop: the labels of the first s states left are counted, at most 16 for each.
use Rattle.std.proofs.Common.{◌≡◌, ◌*◌, ◌≤◌, length}
use Rattle.paper.specs.Below.{sum}
use Rattle.reduce.specs.Pieces.{labels_of}
use Rattle.reduce.proofs.left.Left.held.Given as goal

abbrev pub invariant-loop-s : goal.invariant-loop-s
invariant-loop-s l =
    (l.held ≡ sum l.s (λ r. length (labels_of l.self.table.table.bytes.now l.self.old r))) × (l.held ≤ 16 * l.s)
