-- Defaults kept as a list of numbers, 65535 for none, and orders of the states in which each comes after its default.
use Rattle.std.specs.Prelude.{◌≡◌, List, ℕ, ◌<◌, get_or}
use Rattle.std.proofs.Math.Option.{some}
use Rattle.paper.specs.View.{View, chain}
use Rattle.paper.specs.Image.{default_from_of}

-- The view of n states that has these defaults and stores nothing.
abbrev pub defaults_view : ℕ → List ℕ → View
defaults_view n def =
    record {
      states = n;
      classes = 0;
      default = λ s. default_from_of (get_or def s 0);
      count = λ s. 0;
      entry_class = λ s j. 0;
      entry_next = λ s j. 0;
    }

-- Each default of a state below n is 65535 or below n.
abbrev pub InRange : ℕ → List ℕ → Type 0
InRange n def = (s : ℕ) → s < n → ¬ (get_or def s 0 ≡ 65535) → get_or def s 0 < n

-- The chain of a state has so many steps.
abbrev pub ChainLength : ℕ → List ℕ → ℕ → ℕ → Type 0
ChainLength n def s l = chain (defaults_view n def) n s ≡ some l

-- A state stands at some place before place i.
abbrev pub StandsBefore : List ℕ → ℕ → ℕ → Type 0
StandsBefore order i s = (j : ℕ) × (j < i) × (get_or order j 0 ≡ s)

-- An order of the states in which each comes after its default.
pub record ParentFirst (n : ℕ) (def order : List ℕ) : Type 0 where
  -- Each place below n holds a state below n.
  pub below : (i : ℕ) → i < n → get_or order i 0 < n
  -- Each state below n stands at some place below n.
  pub stands : (s : ℕ) → s < n → StandsBefore order n s
  -- No state stands at two places.
  pub once : (i j : ℕ) → i < n → j < n → get_or order i 0 ≡ get_or order j 0 → i ≡ j
  -- The default of the state at a place, if it has one, stands at some place before.
  pub after : (i d : ℕ) → i < n → default_from_of (get_or def (get_or order i 0) 0) ≡ some d → StandsBefore order i d
