-- The numbers are small, so nothing wraps.
use Prim.Native.Nat.{◌*◌, ◌≤◌}
use native.Mathlib.Nat.{mul-le-mul}
use native.Mathlib.Omega.{arith}
use Rattle.spread.proofs.row_at.Goals as goal
use Rattle.spread.proofs.row_at.Goals.{Start}

-- The rows before it are not long.
small : (c : Start) → c.args.s * c.args.k ≤ 512 * 256
small c =
    let few : c.args.s ≤ 512 = omega arith in
    let narrow : c.args.k ≤ 256 = omega arith in
    mul-le-mul few narrow

pub overflow_mul-result : goal.overflow_mul-result
overflow_mul-result c = omega (arith, small (goal.at.overflow_mul-result c).Start)

pub overflow_mul-result-2 : goal.overflow_mul-result-2
overflow_mul-result-2 c = omega (arith, small (goal.at.overflow_mul-result-2 c).Start)

pub overflow_add-result : goal.overflow_add-result
overflow_add-result c = omega (arith, small (goal.at.overflow_add-result c).Start)
