-- Trees held in three arrays: the longest distance from each state, its parent, and its tree's number.
use Rattle.std.specs.Prelude.{◌≡◌, List, ℕ, ◌+◌, ◌≤◌, ◌<◌, max, length, get_or}
use Rattle.paper.specs.Forest.{Trees, joined, d}
use Rattle.paper.proofs.Join.{Mates}
use Rattle.trees.proofs.Metric.{Metric}
use Rattle.trees.proofs.Inside.{Inside}
use Rattle.joining.specs.Filled.{Filled}
use Rattle.joining.specs.Rooted.{Low, Rooted}

-- The arrays hold the trees F of n states: F's numbers, F's longest distances, and parents that lead to some state of each tree.
pub record Held (n : ℕ) (F : Trees) (far parent tree : List ℕ) : Type 0 where
  pub numbers : (x : ℕ) → x < n → get_or tree x 0 ≡ F.tree x
  pub farthest : (x : ℕ) → x < n → get_or far x 0 ≡ d n F x
  pub roots : (x : ℕ) → x < n → (r : ℕ) × (Mates F x r) × (Rooted F parent r)

-- The trees of u and v are held and can be joined: they differ, and their parents lead to u and to v.
pub record Ready (n u v : ℕ) (F : Trees) (far parent tree : List ℕ) : Type 0 where
  pub metric : Metric F
  pub inside : Inside n F
  pub held : Held n F far parent tree
  pub apart : ¬ Mates F u v
  pub first : Rooted F parent u
  pub second : Rooted F parent v

-- In trees whose parents lead to r, s is the longer of a distance from x and the way from x to r and on to a state so far past r.
abbrev pub Farther : List ℕ → ℕ → ℕ → ℕ → ℕ → ℕ → ℕ → Type 0
Farther parent old x r most past s =
    (F : Trees) → Metric F → Rooted F parent r → Mates F r x → F.distance x r ≤ most → s ≡ max old (F.distance x r + 1 + past)

-- For the first i states the longest distances are those of the trees joined, whichever trees were ready to be.
abbrev pub Renewed : ℕ → ℕ → ℕ → List ℕ → List ℕ → List ℕ → List ℕ → ℕ → Type 0
Renewed n u v far parent tree new i =
    (F : Trees) → Ready n u v F far parent tree → Filled (λ x a. a ≡ d n (joined F u v) x) far new i

-- The arrays of distances and of numbers have 512 places, and all parents are places.
pub record Whole (far parent tree : List ℕ) : Type 0 where
  pub low : Low parent
  pub long_far : length far ≡ 512
  pub long_tree : length tree ≡ 512

-- After joining u's and v's trees the arrays hold the trees joined, whatever trees they held.
pub record Joined (n u v : ℕ) (far₀ parent₀ tree₀ far parent tree : List ℕ) : Type 0 where
  pub whole : Whole far parent tree
  pub holds : (F : Trees) → Metric F → Inside n F → ¬ Mates F u v → Held n F far₀ parent₀ tree₀ → Held n (joined F u v) far parent tree
