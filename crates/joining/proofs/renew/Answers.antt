use Rattle.std.proofs.Common.{◌≡◌, ◌<◌, length, arith, rules, length-set}
use Rattle.joining.proofs.Renewed.{renewed_starts, renewed_first, renewed_second, renewed_other}
use Rattle.joining.proofs.renew.Goals as goal
use Rattle.joining.proofs.renew.Goals.{else-t-tu+else-t-tv, else-t-tu+then-t-tv, then-t-tu}

pub loop-x-init : goal.loop-x-init
loop-x-init c =
    let a = c.args in
    record { long = search rules; renewed = renewed_starts a.n a.u a.v c.requires.1 c.requires.2 a.d0 a.parent.now a.tree.now a.d0 }

pub loop-x-preserved : goal.loop-x-preserved
loop-x-preserved c =
    let a = c.args in
    let l = c.loop-x in
    let i = l.invariant in
    let xb : l.x < a.n = omega arith in
    let long : l.x < length l.d = omega arith in
    record {
      long = elim c.if-t-tu.branch [
        | else-t-tu+else-t-tv w ↦ rw w.d-is i.long
        | else-t-tu+then-t-tv w ↦ rw w.d-is (simp length-set i.long)
        | then-t-tu w ↦ rw w.d-is (simp length-set i.long)
      ];
      renewed = elim c.if-t-tu.branch [
        | else-t-tu+else-t-tv w ↦ rw w.d-is (renewed_other a.n a.u a.v c.requires.1 c.requires.2 a.d0 a.parent.now a.tree.now l.d l.x xb i.renewed w.if-t-tu.false w.if-t-tv.false)
        | else-t-tu+then-t-tv w ↦ rw w.d-is (renewed_second a.n a.u a.v c.requires.1 c.requires.2 a.d0 a.parent.now a.tree.now l.d l.x xb i.renewed w.farther-then-t-tv.result long w.if-t-tv.true w.farther-then-t-tv.ensures)
        | then-t-tu w ↦ rw w.d-is (renewed_first a.n a.u a.v c.requires.1 c.requires.2 a.d0 a.parent.now a.tree.now l.d l.x xb i.renewed w.farther.result long w.if-t-tu.true w.farther.ensures)
      ];
    }

pub returns : goal.returns
returns c = let e : c.loop-x.x ≡ c.args.n = omega arith in rw e at c.loop-x.invariant.renewed
