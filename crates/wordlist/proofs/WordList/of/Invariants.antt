-- The loop's invariant: string i begins at `at`, every string before it has a length in range, and their places are noted.
use Rattle.std.proofs.Common.{◌≡◌, ◌+◌, ◌*◌, ◌≤◌, false, length}
use Rattle.paper.specs.Below.{any}
use Rattle.paper.specs.Strings.{string_at}
use Rattle.paper.proofs.Filled.{Filled}
use Rattle.strings.proofs.Shape.{size_bad}
use Rattle.wordlist.proofs.WordList.of.Given as goal

abbrev pub invariant-loop-i : goal.invariant-loop-i
invariant-loop-i l = record {
  place : l.at ≡ string_at l.bytes l.i;
  near : l.at ≤ 2 + 36 * l.i;
  sized : any l.i (size_bad l.bytes) ≡ false;
  room : length l.starts ≡ 64;
  noted : Filled (string_at l.bytes) l.starts l.i;
}
