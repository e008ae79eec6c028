-- The loop's invariant: the arrays hold the first so many beginnings of the string behind the names that they held, and p is the state of the last.
use Rattle.std.proofs.Common.{◌+◌, get_or}
use Rattle.strings.proofs.Putting.{up_to}
use Rattle.strings.proofs.Spread.{spread}
use Rattle.grow.proofs.Turns.{Put}
use Rattle.grow.proofs.put_string.Given as goal

abbrev pub invariant-loop-a : goal.invariant-loop-a
invariant-loop-a l =
    Put l.list.bytes.now (up_to l.list.bytes.now l.i) (get_or l.list.starts l.i 0 + 4) l.a-index (spread l.classes.of l.rows) l.names.parent l.names.last l.names.long l.names.from l.names.count l.p
