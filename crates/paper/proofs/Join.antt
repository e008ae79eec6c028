-- Two states of one tree, and two trees joined: which number each state's tree has afterwards, and how far apart two states are.
use mathlib.Core.Path.{◌≡◌, sym, ◌∙◌}
use Prim.Native.Nat.{ℕ, ◌+◌}
use borrow.Author.Tests.{eq-eqb, ne_eqb}
use Rattle.paper.specs.Forest.{Trees, end_near, joined}

-- The two states lie in one tree.
abbrev pub Mates : Trees → ℕ → ℕ → Type 0
Mates F x y = F.tree x ≡ F.tree y

module _ (F : Trees) (u v : ℕ) where
  -- The states of v's tree get u's number.
  pub joined_tree_second : (x : ℕ) → Mates F v x → (joined F u v).tree x ≡ F.tree u
  unfolding joined
  joined_tree_second x h = rw (eq-eqb (F.tree x) (F.tree v) (sym h))

  -- All others keep theirs.
  pub joined_tree_other : (x : ℕ) → ¬ Mates F v x → (joined F u v).tree x ≡ F.tree x
  unfolding joined
  joined_tree_other x h = rw (ne_eqb (F.tree x) (F.tree v) (λ e. h (sym e)))

  -- Two states of one tree keep their distance.
  pub joined_distance_same : (x y : ℕ) → Mates F x y → (joined F u v).distance x y ≡ F.distance x y
  unfolding joined
  joined_distance_same x y h = rw (eq-eqb (F.tree x) (F.tree y) h)

  -- Two states of two trees are a path apart that goes over the pair.
  pub joined_distance_apart : (x y : ℕ) → ¬ Mates F x y
      → (joined F u v).distance x y ≡ F.distance x (end_near F u v x) + 1 + F.distance (end_near F u v y) y
  unfolding joined
  joined_distance_apart x y h = rw (ne_eqb (F.tree x) (F.tree y) h)

  -- Of the pair v lies in v's tree.
  pub end_near_second : (x : ℕ) → Mates F v x → end_near F u v x ≡ v
  unfolding end_near
  end_near_second x h = rw (eq-eqb (F.tree x) (F.tree v) (sym h))

  module _ (apart : ¬ Mates F u v) where
    -- And u in u's.
    pub end_near_first : (x : ℕ) → Mates F u x → end_near F u v x ≡ u
    unfolding end_near
    end_near_first x h = rw (ne_eqb (F.tree x) (F.tree v) (λ e. apart (h ∙ e)))

    -- The states of u's tree keep its number.
    pub joined_tree_first : (x : ℕ) → Mates F u x → (joined F u v).tree x ≡ F.tree u
    joined_tree_first x h = joined_tree_other x (λ e. apart (h ∙ sym e)) ∙ sym h

    -- From u's tree to v's the path goes over the pair.
    pub joined_distance_over : (x y : ℕ) → Mates F u x → Mates F v y → (joined F u v).distance x y ≡ F.distance x u + 1 + F.distance v y
    joined_distance_over x y h k =
        joined_distance_apart x y (λ e. apart (h ∙ e ∙ sym k)) ∙ rw (end_near_first x h, end_near_second y k)

    -- From v's tree to u's it goes over the pair the other way.
    pub joined_distance_back : (x y : ℕ) → Mates F v x → Mates F u y → (joined F u v).distance x y ≡ F.distance x v + 1 + F.distance u y
    joined_distance_back x y h k =
        joined_distance_apart x y (λ e. apart (k ∙ sym e ∙ sym h)) ∙ rw (end_near_second x h, end_near_first y k)
