-- The invariant of the outer loop: the first u rows are taken, a row that can be joined to nothing more as it is. That of the inner loop: of row u the pairs before the next of the weight are taken, all of them where there is none; those of another weight are passed over.
use Rattle.std.proofs.Common.{◌≡◌, ◌-◌, ◌<◌, IfSome, unwrap_or}
use Rattle.paper.specs.Levels.{row, rows}
use Rattle.weights.specs.Weighed.{weight_in}
use Rattle.greedy.specs.Good.{Becomes}
use Rattle.greedy.proofs.take_level.Given as goal

abbrev pub invariant-loop-next : goal.invariant-loop-next
invariant-loop-next l = record {
  place : IfSome l.next (λ v. (l.u < v) × (v < l.n) × (weight_in l.weights l.u v ≡ l.w));
  taken : Becomes l.n l.bound (λ F. row l.n l.bound (weight_in l.weights) l.w l.u F (unwrap_or l.next l.n)) l.initial.f.d l.initial.f.parent l.initial.f.tree l.f.d l.f.parent l.f.tree;
}

abbrev pub decreases-loop-next : goal.decreases-loop-next
decreases-loop-next l = l.n - unwrap_or l.next l.n

abbrev pub invariant-loop-u : goal.invariant-loop-u
invariant-loop-u l =
    Becomes l.n l.bound (λ F. rows l.n l.bound (weight_in l.weights) l.w F l.u) l.initial.f.d l.initial.f.parent l.initial.f.tree l.f.d l.f.parent l.f.tree
