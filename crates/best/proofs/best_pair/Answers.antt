use Rattle.std.proofs.Common.{◌≡◌, ◌<◌, length, sym, arith, length-set}
use Rattle.weights.specs.Weighed.{weight_in}
use Rattle.pairs.specs.Keys.{fits_in, key_in}
use Rattle.pairs.specs.Tie.{order_number}
use Rattle.pairs.proofs.Keys.{fits_small}
use Rattle.best.specs.Picked.{key_found, found_of}
use Rattle.best.proofs.Picked.{found_key}
use Rattle.best.proofs.Searched.{searched_skips, searched_worse, searched_better}
use Rattle.best.proofs.best_pair.Goals as goal
use Rattle.best.proofs.best_pair.Goals.{then-low-u+then-row-best, then-low-u+else-row-best, else-low-u}

pub loop-u-preserved : goal.loop-u-preserved
loop-u-preserved c =
    let a = c.args in
    let l = c.loop-u in
    let i = l.invariant in
    let order = order_number a.tie in
    let fits = fits_in a.weights.now a.w a.d.now a.tree.now a.bound in
    let key = key_in order a.d.now a.long.now in
    let small = fits_small (weight_in a.weights.now) a.w order a.bound a.d.now a.tree.now a.long.now (omega (arith, c.ranges.bound)) in
    let long : l.u < length l.low = omega arith in
    let best = found_of l.best in
    let own : key_found best ≡ l.best.key = found_key l.best i.few in
    record {
      long = elim c.if-low-u.branch [
        | then-low-u+then-row-best w ↦ rw w.low-is (simp length-set i.long)
        | then-low-u+else-row-best w ↦ rw w.low-is (simp length-set i.long)
        | else-low-u w ↦ rw w.low-is i.long
      ];
      few = elim c.if-low-u.branch [
        | then-low-u+then-row-best w ↦ rw w.best-is w.best_in_row-row.ensures.0
        | then-low-u+else-row-best w ↦ rw w.best-is i.few
        | else-low-u w ↦ rw w.best-is i.few
      ];
      searched = elim c.if-low-u.branch [
        | then-low-u+then-row-best w ↦
            let r = w.best_in_row-row in
            rw (w.low-is, w.best-is) (searched_better a.n fits key small l.u a.floors l.low best i.searched long (found_of r.result) r.ensures.1 r.result.key (sym (found_key r.result r.ensures.0)) (omega (arith, w.if-row-best.true)))
        | then-low-u+else-row-best w ↦
            let r = w.best_in_row-row in
            rw (w.low-is, w.best-is) (searched_worse a.n fits key small l.u a.floors l.low best i.searched long (found_of r.result) r.ensures.1 r.result.key (sym (found_key r.result r.ensures.0)) (omega (arith, w.if-row-best.false)))
        | else-low-u w ↦ rw (w.low-is, w.best-is) (searched_skips a.n fits key small l.u a.floors l.low best i.searched (omega arith))
      ];
    }
