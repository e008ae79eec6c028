-- The loop's invariant: the places of the states so far are filled, and `at` is the place of the next.
use Rattle.std.proofs.Common.{length}
use Rattle.paper.specs.Image.{entry_at}
use Rattle.image.proofs.Places.{Begun}
use Rattle.image.proofs.begins_of.Given as goal

abbrev pub invariant-loop-s : goal.invariant-loop-s
invariant-loop-s l = Begun (λ q. entry_at l.image q 0) 513 (length l.image) l.n l.at l.begins l.s
