-- What the request asks of the states and reports of the table, by what is read back from the table's bytes.
use mathlib.Core.List.{List}
use Prim.Native.Nat.{ℕ, ◌<◌}
use lib.ListN.{length}
use Rattle.paper.specs.Strings.{rules, names, longest_ending_of}
use Rattle.paper.specs.Endings.{IsLongest}
use Rattle.strings.proofs.Names.{Begins, names_begin}
use Rattle.strings.proofs.Longest.{longest_ending, longest_most}
use Rattle.strings.proofs.Stands.{longest_is_name}
use Rattle.strings.proofs.Listed.{one_of_rules}

-- The longest ending that is a name is the longest ending that begins some string of the word list.
pub is_longest : (b w : List ℕ) → 0 < length (rules b) → IsLongest b w (longest_ending_of (names (rules b)) w)
is_longest b w some = record {
  ending = longest_ending (names (rules b)) w;
  begins =
      (one_of_rules (Begins (longest_ending_of (names (rules b)) w)) b).0
      ((names_begin (rules b) (longest_ending_of (names (rules b)) w)).0 (longest_is_name (rules b) some w));
  longest = λ v n s. longest_most (names (rules b)) v w n ((names_begin (rules b) v).1 ((one_of_rules (Begins v) b).1 s));
}
