-- The invariant of the loop: the labels of the first s states left are placed, and end at `at`.
use Rattle.std.proofs.Common.{◌+◌, ◌*◌}
use Rattle.words.proofs.Laid.{Laid}
use Rattle.reduce.specs.Pieces.{list_of}
use Rattle.reduce.proofs.left.Left.put_lists.Given as goal

abbrev pub invariant-loop-s : goal.invariant-loop-s
invariant-loop-s l = Laid l.initial.room (262 + 2 * l.self.count) (list_of l.self.table.table.bytes.now l.self.old) l.s l.room l.at
