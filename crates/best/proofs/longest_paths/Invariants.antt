-- The loop's invariant: the first x states have the number of their tree's place.
use Rattle.std.proofs.Common.{◌≡◌, length}
use Rattle.best.proofs.Longs.{Spread}
use Rattle.best.proofs.longest_paths.Given as goal

abbrev pub invariant-loop-x : goal.invariant-loop-x
invariant-loop-x l = record { whole : length l.long ≡ 512; spread : Spread l.d l.tree l.most l.initial.long l.long l.x }
