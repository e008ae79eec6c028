-- The loop's invariant: the labels of the states before s are placed, and end at `at`.
use Prim.Native.Nat.{◌+◌, ◌*◌}
use Rattle.words.proofs.Laid.{Laid}
use Rattle.relabel.specs.Pieces.{list_of}
use Rattle.relabel.proofs.Tags.put_labels.Given as goal

abbrev pub invariant-loop-s : goal.invariant-loop-s
invariant-loop-s l = Laid l.initial.room (268 + 2 * l.fn.self.n) (list_of l.fn.self.image.now) l.s l.room l.at
