use Rattle.std.proofs.Common.{◌≡◌, ◌+◌, ◌*◌, ◌≤◌, get_or, arith}
use native.Mathlib.Nat.{mul-le-mul, le_refl}
use Rattle.words.proofs.Laid.{laid_none, laid_more}
use Rattle.reduce.proofs.Filled.{length-row, length-rows}
use Rattle.reduce.proofs.left.Left.put_rows.Goals as goal
use Rattle.reduce.proofs.left.Left.put_rows.Goals.{In-loop-s, Start}

-- The row of s ends before the last row does.
fits : (c : In-loop-s) → let s = c.args.self.now in let k = s.table.table.k in c.loop-s.s * k + k ≤ s.count * k
fits c = let s = c.args.self.now in omega (arith, mul-le-mul c.loop-s-test.true (le_refl s.table.table.k))

pub loop-s-init : goal.loop-s-init
loop-s-init c = laid_none _ _ _ _ (omega arith)

pub loop-s-preserved : goal.loop-s-preserved
loop-s-preserved c =
    let l = c.loop-s in
    let s = c.args.self.now in
    let t = s.table.table.bytes.now in
    let k = s.table.table.k in
    laid_more l.invariant s.count c.loop-s-test.true (omega (arith, c.requires, length-rows t s.name s.rank s.old k s.count)) _ _ (omega (arith, length-row t s.name s.rank k (get_or s.old l.s 0))) c.put_row.ensures

pub returns : goal.returns
returns c = let e : c.loop-s.s ≡ c.args.self.now.count = omega arith in rw e at c.loop-s.invariant.laid
