-- Which state of a tree is its root: one with the smallest d; of these one with the most neighbours; of these the one with the smallest number.
use mathlib.Core.Path.{◌≡◌, sym, ◌∙◌, ap}
use mathlib.Core.List.{List}
use mathlib.Core.Option.{Option, none, some}
use Prim.Native.Nat.{ℕ, ◌-◌, ◌<◌}
use native.Mathlib.Omega.{arith}
use native.Mathlib.Decide.{ℕ_discrete}
use Rattle.paper.specs.Table.{states}
use Rattle.paper.specs.Forest.{Trees, lean, root, forest, toward_root}
use Rattle.paper.specs.Roots.{GoesBefore}
use Rattle.paper.proofs.Join.{Mates}
use Rattle.trees.proofs.Grown.{forest_grown}
use Rattle.trees.proofs.Order.{before-d, before-lean, before_number}
use Rattle.trees.proofs.Roots.{first_is_root, root_of}
use Rattle.trees.proofs.Points.{points_to_other}
use Rattle.trees.proofs.Neighbours.{neighbours_le}

-- The root of the tree of each state below n is a state of it, and goes before every state of it.
pub root-chosen : (n : ℕ) (F : Trees) (x : ℕ) → x < n
    → let r = root n (lean n) F x in (r < n) × (Mates F x r) × ((y : ℕ) → y < n → Mates F x y → GoesBefore n F r y)
root-chosen n F x xb =
    let r = root n (lean n) F x in
    let R = root_of n (lean n) F x xb in (
      R.below,
      R.mate,
      λ y yb m.
          let h = first_is_root n (lean n) F r R.first y yb (sym R.mate ∙ m) in
          record {
            smallest = before-d n (lean n) F r y h;
            most = λ e. omega (arith, before-lean n (lean n) F r y h e, neighbours_le n F r, neighbours_le n F y);
            least = λ e f. before_number n (lean n) F r y h e (ap (λ (k : ℕ). n - k) f);
          },
    )

-- In the forest of a table a state without a default is the root of its tree.
pub no_default-root : (t : List ℕ) (order D r : ℕ) → r < states t → toward_root t order D r ≡ none
    → r ≡ root (states t) (lean (states t)) (forest t order D) r
unfolding toward_root
no_default-root t order D r rb e =
    let n = states t in
    let F = forest t order D in
    let G = forest_grown t order D in
    elim (ℕ_discrete r (root n (lean n) F r)) [
      | yes q ↦ q
      | no ne ↦
          let (y, q, N) = points_to_other n (lean n) F G.metric G.inside r rb ne in
          let f : ◌≡◌ {A = Option ℕ} none (some y) = sym e ∙ q in
          let z : ◌≡◌ {A = ℕ} 0 1 = cc in absurd (omega arith)
    ]

-- So it goes before every state of its tree.
pub no_default-chosen : (t : List ℕ) (order D r y : ℕ) → r < states t → y < states t → toward_root t order D r ≡ none
    → Mates (forest t order D) r y → GoesBefore (states t) (forest t order D) r y
no_default-chosen t order D r y rb yb e m =
    rw (← no_default-root t order D r rb e) at ((root-chosen (states t) (forest t order D) r rb).2 y yb m)
