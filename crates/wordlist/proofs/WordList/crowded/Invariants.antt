-- The loop's invariant: none of the first i strings is ended by more than 16 strings.
use Rattle.std.proofs.Common.{◌≡◌, false}
use Rattle.paper.specs.Below.{any}
use Rattle.wordlist.proofs.Turns.{crowded_at}
use Rattle.wordlist.proofs.WordList.crowded.Given as goal

abbrev pub invariant-loop-i : goal.invariant-loop-i
invariant-loop-i l = any l.i (crowded_at l.self.bytes.now) ≡ false
