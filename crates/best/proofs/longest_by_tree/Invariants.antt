-- The loop's invariant: of the first x states the largest distance of each tree stands at the tree's number.
use Rattle.std.proofs.Common.{◌≡◌, length}
use Rattle.best.specs.Longs.{ByTree}
use Rattle.best.proofs.longest_by_tree.Given as goal

abbrev pub invariant-loop-x : goal.invariant-loop-x
invariant-loop-x l = record { long : length l.most ≡ 512; by_tree : ByTree l.d l.tree l.x l.most }
