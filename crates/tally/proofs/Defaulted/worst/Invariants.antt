-- The loop's invariant: `worst` is the largest hops of the classes passed.
use Rattle.std.proofs.Common.{◌*◌}
use Rattle.chains.proofs.Far.{Far}
use Rattle.tally.specs.Owned.{list_view}
use Rattle.tally.proofs.Defaulted.worst.Given as goal

abbrev pub invariant-loop-eight : goal.invariant-loop-eight
invariant-loop-eight l = let t = l.fn.self.table.table in Far (list_view t.bytes.now l.fn.self.def.now) t.n t.k 0 (8 * l.eight) l.worst
