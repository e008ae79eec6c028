-- The loop's invariant: so many of the first i strings end the bytes.
use Rattle.std.proofs.Common.{◌≡◌, ◌≤◌}
use Rattle.paper.specs.Below.{how_many_of}
use Rattle.paper.specs.Strings as goal
use Rattle.paper.specs.Strings.{ends}
use Rattle.wordlist.proofs.WordList.enders_of.Given as asked

abbrev pub invariant-loop-i : asked.invariant-loop-i
invariant-loop-i l = (l.enders ≡ how_many_of l.i (λ q. ends (goal.string l.self.bytes.now q) l.w)) × (l.enders ≤ l.i)
