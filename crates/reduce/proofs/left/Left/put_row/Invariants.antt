-- The invariant of the loop: the new numbers of the next states on the classes before c are placed.
use Rattle.std.proofs.Common.{◌+◌, ◌*◌, get_or}
use Rattle.paper.specs.Words.{bytes16}
use Rattle.words.proofs.Laid.{Laid}
use Rattle.reduce.specs.Pieces.{goes_to}
use Rattle.reduce.proofs.left.Left.put_row.Given as goal

abbrev pub invariant-loop-c : goal.invariant-loop-c
invariant-loop-c l =
    let a = l.fn.self in
    Laid l.initial.room l.at (λ d. bytes16 (goes_to a.table.table.bytes.now a.name a.rank (get_or a.old l.fn.s 0) d)) l.c l.room (l.at + 2 * l.c)
