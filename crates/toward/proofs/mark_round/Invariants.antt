-- The invariant of the loop: the rows of the states of this level before the next one are marked, all of them where there is none.
use Rattle.std.proofs.Common.{◌≡◌, ◌+◌, ◌-◌, ◌<◌, IfSome, unwrap_or}
use Rattle.toward.specs.Marked.{level_in, Marked, finds}
use Rattle.toward.proofs.mark_round.Given as goal

abbrev pub invariant-loop-next : goal.invariant-loop-next
invariant-loop-next l = record {
  place : IfSome l.next (λ s. (s < l.n) × (level_in l.levels s ≡ l.level));
  marks : Marked l.initial.levels l.levels (finds l.t.table.bytes.now l.initial.levels l.level (unwrap_or l.next l.n)) (l.level + 1);
}

abbrev pub decreases-loop-next : goal.decreases-loop-next
decreases-loop-next l = l.n - unwrap_or l.next l.n
