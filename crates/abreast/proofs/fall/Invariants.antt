-- The first loop's invariant: so many of the two cells are read; the second's: so many of them are put.
use mathlib.Core.Path.{◌≡◌}
use Prim.Native.Nat.{◌+◌, ◌-◌, ◌≤◌}
use lib.ListN.{length, get_or}
use Rattle.words.proofs.Put.{Put}
use Rattle.abreast.proofs.fall.Given as goal

abbrev pub invariant-loop-q : goal.invariant-loop-q
invariant-loop-q l = (l.q ≤ 2) × (length l.initial.t ≡ 2) × (length l.initial.h ≡ 2) × Put l.initial.t l.t 0 (λ i. get_or l.to (l.from + i) 0) l.q × Put l.initial.h l.h 0 (λ i. get_or l.hop (l.from + i) 0 + 1) l.q

abbrev pub decreases-loop-q : goal.decreases-loop-q
decreases-loop-q l = 2 - l.q

abbrev pub invariant-loop-q-2 : goal.invariant-loop-q-2
invariant-loop-q-2 l = (l.q ≤ 2) × Put l.initial.to l.to l.at (λ i. get_or l.initial.to (l.from + i) 0) l.q × Put l.initial.hop l.hop l.at (λ i. get_or l.initial.hop (l.from + i) 0 + 1) l.q

abbrev pub decreases-loop-q-2 : goal.decreases-loop-q-2
decreases-loop-q-2 l = 2 - l.q
