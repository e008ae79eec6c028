-- The loop's invariant: the labels of the first i strings are not 0, and none stands before.
use Rattle.std.proofs.Common.{◌≡◌, false}
use Rattle.paper.specs.Below.{any}
use Rattle.wordlist.proofs.Turns.{label_bad}
use Rattle.wordlist.proofs.WordList.labels_bad.Given as goal

abbrev pub invariant-loop-i : goal.invariant-loop-i
invariant-loop-i l = any l.i (label_bad l.self.bytes.now) ≡ false
