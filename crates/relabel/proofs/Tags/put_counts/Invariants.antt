-- The loop's invariant: the counts of the states before s are placed.
use Prim.Native.Nat.{◌+◌, ◌*◌}
use Rattle.words.proofs.Laid.{Laid}
use Rattle.relabel.specs.Pieces.{count_of}
use Rattle.relabel.proofs.Tags.put_counts.Given as goal

abbrev pub invariant-loop-s : goal.invariant-loop-s
invariant-loop-s l = Laid l.initial.room 268 (count_of l.fn.self.image.now) l.s l.room (268 + 2 * l.s)
