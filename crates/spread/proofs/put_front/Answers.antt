-- Two copies, one behind the other.
use mathlib.Core.Path.{◌≡◌}
use Prim.Native.Nat.{◌+◌, ◌-◌}
use native.Mathlib.Omega.{arith}
use Rattle.spread.proofs.Front.{placed_copied, copied_front}
use Rattle.spread.proofs.put_front.Goals as goal

pub returns : goal.returns
returns c =
    let b = c.args.image.now in
    let F = placed_copied b 0 6 0 (omega arith) (omega arith) c.put_bytes.ensures in
    let e : c.args.first + 6 - 12 ≡ c.args.first - 6 = omega arith in
    copied_front (omega arith) F (placed_copied b 12 (c.args.first - 6) 6 (omega arith) (omega (arith, F.kept.long)) (rw e at c.put_bytes-2.ensures))
