-- The cell read is one of all cells, and its number the next state.
use mathlib.Core.Path.{◌∙◌}
use Prim.Native.Nat.{◌+◌, ◌*◌, ◌<◌}
use native.Mathlib.Omega.{arith}
use Rattle.table.proofs.Rows.{cell_below}
use Rattle.table.proofs.Next.{next_cell}
use Rattle.table.proofs.Table.next.Goals as goal
use Rattle.table.proofs.Table.next.Goals.{Start}

-- The cell is one of all cells.
inside : (c : Start) → c.args.s * c.args.self.now.k + c.args.c < c.args.self.now.n * c.args.self.now.k
inside c = let t = c.args.self.now in cell_below t.n t.k c.args.s c.args.c c.requires.0 c.requires.1

pub overflow_mul-s : goal.overflow_mul-s
overflow_mul-s c = omega (arith, inside (goal.at.overflow_mul-s c).Start)

pub overflow_add-s : goal.overflow_add-s
overflow_add-s c = omega (arith, inside (goal.at.overflow_add-s c).Start)

pub overflow_mul-s-2 : goal.overflow_mul-s-2
overflow_mul-s-2 c = omega (arith, inside (goal.at.overflow_mul-s-2 c).Start)

pub overflow_add-t : goal.overflow_add-t
overflow_add-t c = omega (arith, inside (goal.at.overflow_add-t c).Start)

pub get16-requires : goal.get16-requires
get16-requires c = omega (arith, inside (goal.at.get16-requires c).Start)

pub returns : goal.returns
returns c = let t = c.args.self.now in c.get16.ensures ∙ next_cell t.bytes.now t.n t.k c.args.self.now.counted c.args.s c.args.c
