-- The loop's invariant: the arrays hold the names of the first i strings.
use Rattle.strings.proofs.Putting.{up_to}
use Rattle.strings.proofs.Held.{Held}
use Rattle.strings.proofs.Spread.{spread}
use Rattle.grow.proofs.put_all.Given as goal

abbrev pub invariant-loop-i : goal.invariant-loop-i
invariant-loop-i l =
    Held l.list.bytes.now (up_to l.list.bytes.now l.i) (spread l.classes.of l.rows) l.names.parent l.names.last l.names.long l.names.from l.names.count
