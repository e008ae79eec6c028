-- The lengths meet their contract. The invariant: the lengths of the states at the places passed are set down.
use Rattle.std.proofs.Common.{◌≡◌, length, get_or}
use Rattle.chains.specs.Orders.{ChainLength}
use Rattle.chains.proofs.Done.{Done}
use Rattle.chains.proofs.lengths.Given as goal

abbrev pub invariant-loop-i : goal.invariant-loop-i
invariant-loop-i l = (length l.len ≡ 512) × Done (ChainLength l.n l.def) l.order (λ q. get_or l.len q 0) l.i
