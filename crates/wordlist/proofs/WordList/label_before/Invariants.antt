-- The loop's invariant: none of the first j strings has the label.
use Rattle.std.proofs.Common.{◌≡◌, false, eqb}
use Rattle.paper.specs.Below.{any}
use Rattle.paper.specs.Strings as goal
use Rattle.wordlist.proofs.WordList.label_before.Given as asked

abbrev pub invariant-loop-j : asked.invariant-loop-j
invariant-loop-j l = any l.j (λ q. eqb (goal.label l.self.bytes.now q) l.label) ≡ false
