-- The loop's invariant: the places of the states before s are filled in, and the next one is known.
use Rattle.std.proofs.Common.{◌≡◌, ◌+◌}
use Rattle.paper.specs.Below.{sum}
use Rattle.paper.specs.Labels.{label_count}
use Rattle.paper.proofs.Filled.{Fills}
use Rattle.labels.proofs.Labels.firsts.Given as goal

abbrev pub invariant-loop-s : goal.invariant-loop-s
invariant-loop-s l = Fills (λ q. l.n + sum q (label_count l.b l.at)) l.firsts l.s × (l.first ≡ l.n + sum l.s (label_count l.b l.at))
