-- The invariant of the loop: the numbers of the first s states left are placed.
use Rattle.std.proofs.Common.{◌+◌, ◌*◌}
use Rattle.words.proofs.Laid.{Laid}
use Rattle.reduce.specs.Pieces.{tag_of}
use Rattle.reduce.proofs.left.Left.put_tags.Given as goal

abbrev pub invariant-loop-s : goal.invariant-loop-s
invariant-loop-s l = Laid l.initial.room 262 (tag_of l.self.table.table.bytes.now l.self.old) l.s l.room (262 + 2 * l.s)
