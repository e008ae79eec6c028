-- Which weights the pairs have.
use Rattle.std.specs.Prelude.{◌≡◌, List, ℕ, ◌+◌, ◌*◌, ◌<◌, get_or}

-- The weight of each pair of states below n that stands before `end`, 512 places to a first state, stands at its own place among the marks, and every other mark is 0 or its own place.
pub record Named (weight : ℕ → ℕ → ℕ) (n end : ℕ) (marks : List ℕ) : Type 0 where
  pub stands : (u v : ℕ) → u < v → v < n → u * 512 + v < end → get_or marks (weight u v) 0 ≡ weight u v
  pub own : (c : ℕ) → c < 256 → ¬ (get_or marks c 0 ≡ 0) → get_or marks c 0 ≡ c
