-- The loop's invariant: the classes of the first x bytes are marked, and no others.
use Rattle.std.proofs.Common.{◌≡◌, ◌+◌, length}
use Rattle.paper.specs.Words.{byte_at}
use Rattle.paper.proofs.Marks.{Seen}
use Rattle.table.proofs.classes_seen.Given as goal

abbrev pub invariant-loop-x : goal.invariant-loop-x
invariant-loop-x l = (length l.seen ≡ 256) × Seen l.seen (λ x. byte_at l.b (l.at + x)) l.x
