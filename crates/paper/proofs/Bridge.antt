-- A bridge: two trees joined by a pair, said alike from either end of it. Two different trees joined are bridged.
use mathlib.Core.Path.{◌≡◌, sym, ◌∙◌}
use mathlib.Core.Logic.{◌⊎◌, inl, inr}
use Prim.Native.Nat.{ℕ, ◌+◌}
use native.Mathlib.Decide.{ℕ_discrete}
use Rattle.paper.specs.Forest.{Trees, joined}
use Rattle.paper.proofs.Join.{Mates, joined_tree_first, joined_tree_second, joined_tree_other, joined_distance_same, joined_distance_over, joined_distance_back}

-- From x one comes to y within x's tree, or over the pair from a's tree into b's.
abbrev pub Reached : Trees → ℕ → ℕ → ℕ → ℕ → Type 0
Reached F a b x y = Mates F x y ⊎ ((Mates F a x) × (Mates F b y))

-- In G all mates of x are reached so.
abbrev pub Faces : Trees → Trees → ℕ → ℕ → ℕ → Type 0
Faces F G a b x = (y : ℕ) → Mates G x y → Reached F a b x y

-- G is F with the trees of a and b joined by the pair of a and b.
pub record Bridge (F G : Trees) (a b : ℕ) : Type 0 where
  -- Two states of one tree stay so.
  pub keep : (x y : ℕ) → Mates F x y → Mates G x y
  -- The two trees become one.
  pub meet : (x y : ℕ) → Mates F a x → Mates F b y → Mates G x y
  -- Two states of one tree keep their distance.
  pub same : (x y : ℕ) → Mates F x y → G.distance x y ≡ F.distance x y
  -- A path from a's tree to b's goes over the pair.
  pub over : (x y : ℕ) → Mates F a x → Mates F b y → G.distance x y ≡ F.distance x a + 1 + F.distance b y
  -- A path from b's tree to a's goes over it the other way.
  pub back : (x y : ℕ) → Mates F b x → Mates F a y → G.distance x y ≡ F.distance x b + 1 + F.distance a y
  -- A state has no other mates than those of its tree and, over the pair in the one direction or the other, those of the tree there.
  pub faces : (x : ℕ) → Faces F G a b x ⊎ Faces F G b a x

-- The same bridge from its other end.
pub turned : {F G : Trees} {a b : ℕ} → Bridge F G a b → Bridge F G b a
turned B =
    record {
      keep = B.keep;
      meet = λ x y h k. sym (B.meet y x k h);
      same = B.same;
      over = B.back;
      back = B.over;
      faces = λ x. elim (B.faces x) [ inl s ↦ inr s | inr s ↦ inl s ];
    }

module _ {F G : Trees} {a b : ℕ} (B : Bridge F G a b) where
  -- The mates of a state of a's tree are its old ones and those of b.
  pub bridged_mates : (x y : ℕ) → Mates F a x → Mates G x y → Mates F x y ⊎ Mates F b y
  bridged_mates x y h k =
      elim (B.faces x) [
        | inl s ↦ elim (s y k) [ inl e ↦ inl e | inr e ↦ inr e.1 ]
        | inr s ↦ elim (s y k) [ inl e ↦ inl e | inr e ↦ inl (sym h ∙ e.1) ]
      ]

  -- The mates of a state of neither tree are its old ones.
  pub bridged_mates_other : (x y : ℕ) → ¬ Mates F a x → ¬ Mates F b x → Mates G x y → Mates F x y
  bridged_mates_other x y na nb k =
      elim (B.faces x) [
        | inl s ↦ elim (s y k) [ inl e ↦ e | inr e ↦ absurd (na e.0) ]
        | inr s ↦ elim (s y k) [ inl e ↦ e | inr e ↦ absurd (nb e.0) ]
      ]

module _ (F : Trees) (u v : ℕ) where
  -- Two states of one tree stay so.
  keeps : (x y : ℕ) → Mates F x y → Mates (joined F u v) x y
  keeps x y h =
      elim (ℕ_discrete (F.tree v) (F.tree x)) [
        | yes e ↦ joined_tree_second F u v x e ∙ sym (joined_tree_second F u v y (e ∙ h))
        | no e ↦ joined_tree_other F u v x e ∙ h ∙ sym (joined_tree_other F u v y (λ k. e (k ∙ sym h)))
      ]

  -- A state with u's number was in u's tree or in v's.
  side : (y : ℕ) → (joined F u v).tree y ≡ F.tree u → Mates F u y ⊎ Mates F v y
  side y h = elim (ℕ_discrete (F.tree v) (F.tree y)) [ yes e ↦ inr e | no e ↦ inl (sym h ∙ joined_tree_other F u v y e) ]

  -- The mates of each state are reached from it in one of the two directions.
  faced : (x : ℕ) → Faces F (joined F u v) u v x ⊎ Faces F (joined F u v) v u x
  faced x =
      elim (ℕ_discrete (F.tree v) (F.tree x)) [
        | yes e ↦ inr (λ y h. elim (side y (sym h ∙ joined_tree_second F u v x e)) [ inl k ↦ inr (e, k) | inr k ↦ inl (sym e ∙ k) ])
        | no e ↦ inl (λ y h.
            elim (ℕ_discrete (F.tree v) (F.tree y)) [
              | yes k ↦ inr (sym (joined_tree_second F u v y k) ∙ sym h ∙ joined_tree_other F u v x e, k)
              | no k ↦ inl (sym (joined_tree_other F u v x e) ∙ h ∙ joined_tree_other F u v y k)
            ])
      ]

-- Two different trees joined by a pair are bridged by it.
pub joined_bridge : (F : Trees) (u v : ℕ) → ¬ Mates F u v → Bridge F (joined F u v) u v
joined_bridge F u v apart =
    record {
      keep = keeps F u v;
      meet = λ x y h k. joined_tree_first F u v apart x h ∙ sym (joined_tree_second F u v y k);
      same = joined_distance_same F u v;
      over = joined_distance_over F u v apart;
      back = joined_distance_back F u v apart;
      faces = faced F u v;
    }
