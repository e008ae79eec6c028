-- Which classes a state of a table keeps as entries, by the default that it falls to.
use Rattle.std.specs.Prelude.{◌≡◌, Bool, true, false, List, ℕ, ◌+◌, ◌<◌, ltb, get_or}
use Rattle.std.proofs.Math.Option.{Option, none, some}
use Rattle.paper.specs.Below.{how_many_of, differ}
use Rattle.paper.specs.Table.{classes, next}
use Rattle.paper.specs.Image.{default_from_of}

-- Without a default a state keeps the class; with one, where its next state is another than its default's.
abbrev pub kept : List ℕ → ℕ → ℕ → Option ℕ → Bool
kept t s c none = true
kept t s c (some d) = differ (next t s c) (next t d c)

-- How many of the first k classes a state keeps, with the default that a number stands for.
abbrev pub kept_count : List ℕ → ℕ → ℕ → ℕ → ℕ
kept_count t k s d = how_many_of k (λ c. kept t s c (default_from_of d))

-- The list holds for each state below n how many classes it keeps, with the defaults of another list.
abbrev pub Counts : List ℕ → ℕ → List ℕ → List ℕ → Type 0
Counts t n def counts = (s : ℕ) → s < n → get_or counts s 0 ≡ kept_count t (classes t) s (get_or def s 0)

-- A state that keeps so many of k classes and has this default shares fewer than two with it.
abbrev pub shares_few_of : ℕ → ℕ → Option ℕ → Bool
shares_few_of k count none = false
shares_few_of k count (some d) = ltb k (count + 2)
