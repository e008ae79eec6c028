-- Parents in an array: where they lead, what a climb over them counts, and what turning a tree makes of them.
use Rattle.std.specs.Prelude.{◌≡◌, List, ℕ, ◌≤◌, ◌<◌, get_or}
use Rattle.paper.specs.Forest.{Trees}
use Rattle.paper.proofs.Join.{Mates}
use Rattle.trees.proofs.Metric.{Metric, Nearer}

-- All 512 parents are places of the array.
abbrev pub Low : List ℕ → Type 0
Low parent = (x : ℕ) → x < 512 → get_or parent x 0 < 512

-- The parents lead to r: r is its own parent, and that of any other state of r's tree is its neighbour one step nearer to r.
pub record Rooted (F : Trees) (parent : List ℕ) (r : ℕ) : Type 0 where
  pub own : get_or parent r 0 ≡ r
  pub up : (x : ℕ) → Mates F r x → ¬ (x ≡ r) → Nearer F x r (get_or parent x 0)

-- In trees whose parents lead to r, at most so many steps away, s is the distance of x to r.
abbrev pub Climbed : List ℕ → ℕ → ℕ → ℕ → ℕ → Type 0
Climbed parent x r most s = (F : Trees) → Metric F → Rooted F parent r → Mates F r x → F.distance x r ≤ most → s ≡ F.distance x r

-- In trees whose parents led to some state of u's tree, at most so many steps away, the new ones lead to u; other trees keep theirs.
abbrev pub Turned : List ℕ → ℕ → ℕ → List ℕ → Type 0
Turned old u most new =
    (F : Trees) → Metric F → (r : ℕ) → Mates F u r → Rooted F old r → F.distance u r ≤ most
    → (Rooted F new u) × ((x : ℕ) → ¬ Mates F u x → get_or new x 0 ≡ get_or old x 0)
