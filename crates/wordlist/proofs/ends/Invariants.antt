-- The loop's invariant: the one list ends the other just where its first j bytes end the other's first `gap` and j.
use Rattle.std.proofs.Common.{◌≡◌}
use Rattle.paper.specs.Strings.{ends}
use Rattle.wordlist.proofs.Endings.{rest}
use Rattle.wordlist.proofs.ends.Given as goal

abbrev pub invariant-loop-j : goal.invariant-loop-j
invariant-loop-j l = ends l.v l.w ≡ rest l.v l.w l.gap l.j
