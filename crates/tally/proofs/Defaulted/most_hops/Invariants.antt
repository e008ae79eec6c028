-- The loop's invariant: the rows of the states at the places so far hold their hops.
use Rattle.tally.proofs.Eight.{Hopping}
use Rattle.tally.proofs.Defaulted.most_hops.Given as goal

abbrev pub invariant-loop-s : goal.invariant-loop-s
invariant-loop-s l = Hopping l.t.bytes.now l.fn.self.def.now l.fn.order l.t.n l.classes l.s-index l.hop
