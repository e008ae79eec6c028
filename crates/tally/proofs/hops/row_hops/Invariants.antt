-- Without a default all are 0; else the loop's invariant: so many of the eight are known.
use Rattle.std.proofs.Common.{◌≡◌, ◌+◌, ◌*◌, length, get_or}
use Rattle.words.proofs.Put.{Put}
use Rattle.tally.specs.Hops.{hop_number}
use Rattle.tally.proofs.hops.row_hops.Given as goal

abbrev pub invariant-loop-j : goal.invariant-loop-j
invariant-loop-j l = (length l.initial.row ≡ 8) × Put l.initial.row l.row 0 (λ i. hop_number l.t.bytes.now l.s l.d (get_or l.classes i 0) (get_or l.hop (8 * l.d + i) 0)) l.j
