-- The loop's invariant: the hops of the states at the places passed are set down.
use Rattle.std.proofs.Common.{◌≡◌, length, get_or}
use Rattle.chains.proofs.Done.{Done}
use Rattle.rewrite.proofs.Hopping.{Within}
use Rattle.rewrite.proofs.rewriting.take_hops.Given as goal

abbrev pub invariant-loop-x : goal.invariant-loop-x
invariant-loop-x l = (length l.hop ≡ 512) × Done (Within l.n l.stay l.own l.x-index) l.order (λ q. get_or l.hop q 0) l.x-index
