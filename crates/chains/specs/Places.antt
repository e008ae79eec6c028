-- The order while it is made: the states set down so far, and for each state the place where it stands, 65535 for none yet.
use Rattle.std.specs.Prelude.{◌≡◌, List, ℕ, ◌≤◌, ◌<◌, get_or, length}
use Rattle.std.proofs.Math.Option.{some}
use Rattle.paper.specs.Below.{or}
use Rattle.paper.specs.View.{View, steps}
use Rattle.chains.specs.Orders.{defaults_view, InRange}

-- A state has no place yet.
abbrev pub Unplaced : List ℕ → ℕ → Type 0
Unplaced place s = get_or place s 0 ≡ 65535

-- The first so many places of the order hold states, each after its default, and the places of the states say where.
pub record Laid (v : View) (order place : List ℕ) (filled : ℕ) : Type 0 where
  pub order_long : length order ≡ 512
  pub place_long : length place ≡ 512
  -- Each of these places holds a state below n.
  pub below : (i : ℕ) → i < filled → get_or order i 0 < v.states
  -- The place of a state that is held is where it stands.
  pub says : (i : ℕ) → i < filled → get_or place (get_or order i 0) 0 ≡ i
  -- A state that has a place is held there.
  pub stands : (s : ℕ) → s < v.states → ¬ Unplaced place s → (get_or place s 0 < filled) × (get_or order (get_or place s 0) 0 ≡ s)
  -- The default of a state that is held has a place before it.
  pub after : (i d : ℕ) → i < filled → v.default (get_or order i 0) ≡ some d → get_or place d 0 < i

-- The state that is so many steps along the chain of a state, 0 where the chain has ended before.
abbrev pub along : View → ℕ → ℕ → ℕ
along v s i = or (steps v i s) 0

-- The first so many states along the chain of a state have no place yet, and the next, if there is one, has.
pub record Climbed (v : View) (place : List ℕ) (s count : ℕ) : Type 0 where
  pub passed : (i : ℕ) → i < count → (steps v i s ≡ some (along v s i)) × Unplaced place (along v s i)
  pub stopped : (x : ℕ) → steps v count s ≡ some x → ¬ Unplaced place x

-- A climb from a state that can be set down behind the states that stand.
pub record Ready (n : ℕ) (def order place : List ℕ) (filled s count : ℕ) : Type 0 where
  pub few : n ≤ 512
  pub range : InRange n def
  pub laid : Laid (defaults_view n def) order place filled
  pub below : s < n
  pub climbed : Climbed (defaults_view n def) place s count

-- A climb from a state is set down: so many states stand now, among them that state and all that had a place before.
pub record SetDown (n : ℕ) (def order old place : List ℕ) (filled s : ℕ) : Type 0 where
  pub room : filled ≤ n
  pub laid : Laid (defaults_view n def) order place filled
  pub placed : ¬ Unplaced place s
  pub kept : (q : ℕ) → ¬ Unplaced old q → ¬ Unplaced place q
