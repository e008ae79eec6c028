-- The loop's invariant: none of the classes so far is needless anywhere, and `most` is 1024 more than the largest hops of them.
use Rattle.std.proofs.Common.{◌*◌}
use Rattle.sweep.proofs.Sweeping.{Sweeping}
use Rattle.sweep.proofs.largest_hops.Given as goal

abbrev pub invariant-loop-pair : goal.invariant-loop-pair
invariant-loop-pair g l =
    let e = g.E.Entries in Sweeping (e.view l.entries) (e.bytes l.entries) l.n (2 * l.pair) l.place l.left l.wait l.to l.hop l.most
