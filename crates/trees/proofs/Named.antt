-- The number of a tree is one of its states.
use mathlib.Core.Path.{refl, sym, ◌∙◌, ap}
use Prim.Native.Nat.{ℕ}
use native.Mathlib.Decide.{ℕ_discrete}
use Rattle.paper.specs.Forest.{Trees, singles, joined}
use Rattle.paper.proofs.Join.{Mates, joined_tree_first, joined_tree_second, joined_tree_other}
use Rattle.paper.proofs.Bridge.{joined_bridge}

-- Every state lies in one tree with the number of its tree.
abbrev pub Named : Trees → Type 0
Named F = (x : ℕ) → Mates F x (F.tree x)

-- A single state is its tree's number.
pub singles_named : Named singles
unfolding singles
singles_named x = refl

-- Joining two different trees keeps that.
pub joined_named : (F : Trees) (u v : ℕ) → ¬ Mates F u v → Named F → Named (joined F u v)
joined_named F u v apart N x =
    let G : Trees = joined F u v in
    elim (ℕ_discrete (F.tree v) (F.tree x)) [
      | yes e ↦
          let t = joined_tree_second F u v x e in
          t ∙ sym (joined_tree_first F u v apart (F.tree u) (N u)) ∙ sym (ap G.tree t)
      | no e ↦ (joined_bridge F u v apart).keep x (F.tree x) (N x) ∙ sym (ap G.tree (joined_tree_other F u v x e))
    ]
