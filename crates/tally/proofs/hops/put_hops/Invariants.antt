-- The loop's invariant: so many of the eight are set down.
use Rattle.std.proofs.Common.{◌*◌}
use Rattle.words.proofs.Put.{Put}
use Rattle.tally.specs.Hops.{row_number}
use Rattle.tally.proofs.hops.put_hops.Given as goal

abbrev pub invariant-loop-j : goal.invariant-loop-j
invariant-loop-j l = Put l.initial.hop l.hop (8 * l.s) (row_number l.t.bytes.now l.s l.d l.classes l.initial.hop) l.j
