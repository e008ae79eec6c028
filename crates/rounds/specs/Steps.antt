-- The numbers by which a round orders states.
use Rattle.std.specs.Prelude.{◌≡◌, List, ℕ, zero, suc, ◌≤◌, ◌<◌, get_or}
use Rattle.paper.specs.Below.{list}
use Rattle.paper.specs.Table.{classes, next}

module _ (t p : List ℕ) where
  -- The name of a state's next state on a class.
  abbrev pub after : ℕ → ℕ → ℕ
  after x c = get_or p (next t x c) 0

  -- The name of a state, then those of its next states, class by class, 0 behind them.
  abbrev pub steps : ℕ → ℕ → ℕ
  steps x zero = get_or p x 0
  steps x (suc i) = get_or (list (classes t) (after x)) i 0

-- The states that have a name count.
abbrev pub HasName : List ℕ → ℕ → Type 0
HasName p x = ¬ (get_or p x 0 ≡ 65535)

-- Of n states each that has a name has that of a state not above it, which names itself.
abbrev pub Headed : ℕ → List ℕ → Type 0
Headed n p = (x : ℕ) → x < n → HasName p x → (get_or p x 0 ≤ x) × (get_or p (get_or p x 0) 0 ≡ get_or p x 0)
