-- The loop's invariant: the first c places hold those of the row.
use Rattle.std.proofs.Common.{◌≡◌, ◌+◌, ◌*◌, length, get_or}
use Rattle.paper.proofs.Filled.{Filled}
use Rattle.rows.proofs.copy_row.Given as goal

abbrev pub invariant-loop-c : goal.invariant-loop-c
invariant-loop-c l = (length l.linked ≡ 256) × Filled (λ x. get_or l.rows (l.l * 256 + x) 0) l.linked l.c
