-- The loop's invariant: the sum fits in sixteen bits, and with the words from word i on it comes to the ones' complement sum of all words.
use Rattle.std.proofs.Common.{◌*◌}
use Rattle.words.proofs.Sum.{Summed}
use Rattle.words.proofs.check_word.Given as goal

abbrev pub invariant-loop-i : goal.invariant-loop-i
invariant-loop-i l = Summed l.b (2 * l.i) l.sum
