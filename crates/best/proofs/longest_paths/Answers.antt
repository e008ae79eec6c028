use Rattle.std.proofs.Common.{arith, length-set}
use Rattle.best.proofs.Longs.{spread_stored, spread_kept}
use Rattle.best.proofs.longest_paths.Goals as goal
use Rattle.best.proofs.longest_paths.Goals.{else-t-lt512, then-t-lt512}

pub loop-x-preserved : goal.loop-x-preserved
loop-x-preserved c =
    let l = c.loop-x in
    let i = l.invariant in
    let a = c.args in
    let most = c.longest_by_tree-most.result in
    record {
      whole = elim c.if-t-lt512.branch [
        | then-t-lt512 w ↦ rw w.long-is (simp length-set i.whole)
        | else-t-lt512 w ↦ rw w.long-is i.whole
      ];
      spread = elim c.if-t-lt512.branch [
        | then-t-lt512 w ↦ rw w.long-is (spread_stored a.d.now a.tree.now most _ l.long l.x i.spread (omega arith))
        | else-t-lt512 w ↦ rw w.long-is (spread_kept a.d.now a.tree.now most _ l.long l.x i.spread (λ k. omega (arith, w.if-t-lt512.false)))
      ];
    }
