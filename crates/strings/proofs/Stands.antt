-- The state that stands for what was read: its name is the longest ending that is a name.
use mathlib.Core.Path.{◌≡◌}
use mathlib.Core.Bool.{true}
use mathlib.Core.List.{List, [], ◌∷◌, ◌++◌}
use Prim.Native.Nat.{ℕ, ◌<◌}
use native.Mathlib.Omega.{arith}
use lib.ListN.{length, get_or}
use Rattle.paper.specs.Strings.{Rule, among, number_of, names, longest_ending_of}
use Rattle.strings.proofs.Among.{number_of_below}
use Rattle.strings.proofs.Names.{names_closed, name_of_number, empty_first, empty_name}
use Rattle.strings.proofs.Endings.{Closed, next, longest-next}
use Rattle.strings.proofs.Longest.{longest-among}

module _ (rs : List Rule) where
  -- Of every name the name without its last byte is a name.
  pub closed : Closed (names rs)
  closed w a e = names_closed rs w (a ∷ []) e

  -- The state to which a state leads on a byte: the number of the longest ending that is a name.
  abbrev pub goes : ℕ → ℕ → ℕ
  goes s x = number_of (next (names rs) (get_or (names rs) s []) x) (names rs)

  -- The state stands for the longest ending of what was read that is a name.
  pub record Stands (w : List ℕ) (s : ℕ) : Type 0 where
    pub state_below : s < length (names rs)
    pub name_is : get_or (names rs) s [] ≡ longest_ending_of (names rs) w

  module _ (some : 0 < length rs) where
    -- The longest ending of any string is a name.
    pub longest_is_name : (w : List ℕ) → among (longest_ending_of (names rs) w) (names rs) ≡ true
    longest_is_name w = longest-among (names rs) (empty_name rs some) w

    -- The number of that ending stands for it.
    pub number_stands : (w : List ℕ) → Stands w (number_of (longest_ending_of (names rs) w) (names rs))
    number_stands w = record {
      state_below = number_of_below (longest_ending_of (names rs) w) (names rs) (longest_is_name w);
      name_is = name_of_number rs (longest_ending_of (names rs) w) (longest_is_name w);
    }

    -- Before the first byte state 0 stands for the empty string.
    pub stands_start : Stands [] 0
    stands_start = record {
      state_below = omega (arith, (empty_first rs).1, number_of_below [] (names rs) (empty_name rs some));
      name_is = (empty_first rs).0;
    }

    -- One byte more.
    pub stands_next : (w : List ℕ) (s x : ℕ) → Stands w s → Stands (w ++ (x ∷ [])) (goes s x)
    stands_next w s x S = rw (S.name_is, ← longest-next (names rs) closed w x) (number_stands (w ++ (x ∷ [])))
