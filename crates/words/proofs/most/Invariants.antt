-- So far the largest of the numbers passed, and of `least`.
use Rattle.std.proofs.Common.{◌≡◌, max, get_or}
use Rattle.paper.specs.Below.{largest}
use Rattle.words.proofs.most.Given as goal

abbrev pub invariant-loop-x : goal.invariant-loop-x
invariant-loop-x l = l.largest ≡ max l.least (largest l.x-index (λ i. get_or l.list i 0))
