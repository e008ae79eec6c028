-- The loop's invariant: `all` is the sum of the numbers so far, each of 16 bits.
use Rattle.std.proofs.Common.{◌≡◌, ◌*◌, ◌≤◌, get_or}
use Rattle.paper.specs.Below.{sum}
use Rattle.tally.proofs.sum_of.Given as goal

abbrev pub invariant-loop-x : goal.invariant-loop-x
invariant-loop-x l = (l.all ≡ sum l.x-index (λ q. get_or l.list q 0)) × (l.all ≤ 65535 * l.x-index)
