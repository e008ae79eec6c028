-- The invariant of the loop: the rows of the first s states left are placed.
use Rattle.std.proofs.Common.{◌+◌, ◌*◌, get_or}
use Rattle.words.proofs.Laid.{Laid}
use Rattle.reduce.specs.Pieces.{row_of}
use Rattle.reduce.proofs.left.Left.put_rows.Given as goal

abbrev pub invariant-loop-s : goal.invariant-loop-s
invariant-loop-s l =
    let a = l.self in
    Laid l.initial.room l.at (λ r. row_of a.table.table.bytes.now a.name a.rank l.k (get_or a.old r 0)) l.s l.room (l.at + 2 * (l.s * l.k))
