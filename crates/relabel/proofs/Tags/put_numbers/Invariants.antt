-- The loop's invariant: the numbers of the states before s are placed, and the list of state s begins at `from`.
use mathlib.Core.Path.{◌≡◌}
use Prim.Native.Nat.{◌+◌, ◌*◌}
use Rattle.paper.specs.Below.{sum}
use Rattle.paper.specs.Labels.{label_count}
use Rattle.words.proofs.Laid.{Laid}
use Rattle.relabel.specs.Pieces.{number_of}
use Rattle.relabel.proofs.Tags.put_numbers.Given as goal

abbrev pub invariant-loop-s : goal.invariant-loop-s
invariant-loop-s l = (l.from ≡ 268 + 2 * l.fn.self.n + 2 * sum l.s (label_count l.fn.self.image.now 268)) × Laid l.initial.room 268 (number_of l.fn.self.image.now l.fn.self.n) l.s l.room (268 + 2 * l.s)
