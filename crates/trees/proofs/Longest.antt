-- The longest path of a tree: the largest distance of two of its states, and how a join renews it.
use mathlib.Core.Path.{◌≡◌, refl, sym, ◌∙◌}
use mathlib.Core.Logic.{◌↔◌, inl, inr}
use Prim.Native.Nat.{ℕ, ◌+◌, ◌≤◌, ◌<◌, max}
use native.Mathlib.Omega.{arith}
use Rattle.paper.specs.Forest.{Trees, joined, d, longest, joined_longest}
use Rattle.paper.proofs.Join.{Mates}
use Rattle.paper.proofs.Bridge.{Bridge, turned, bridged_mates, bridged_mates_other, joined_bridge}
use Rattle.trees.proofs.Metric.{Metric}
use Rattle.trees.proofs.InTree.{largest_in_upper, largest_in_least, largest_in_attained, largest_in_same}
use Rattle.trees.proofs.Farthest.{d_upper, d_least, d_attained, bridged_d, bridged_d_other}

module _ (n : ℕ) (F : Trees) (x : ℕ) where
  -- No state of the tree has a larger d.
  pub longest_above_d : (y : ℕ) → y < n → Mates F x y → d n F y ≤ longest n F x
  unfolding longest
  longest_above_d y l h = largest_in_upper F x (d n F) n y l h

  -- It is not above what no d of the tree is above.
  pub longest_least_d : (m : ℕ) → ((y : ℕ) → y < n → Mates F x y → d n F y ≤ m) → longest n F x ≤ m
  unfolding longest
  longest_least_d m h = largest_in_least F x (d n F) n m h

  -- No two states of the tree are farther apart.
  pub longest_upper : (y z : ℕ) → y < n → z < n → Mates F x y → Mates F x z → F.distance y z ≤ longest n F x
  longest_upper y z yb zb h k = omega (arith, d_upper n F y z zb (sym h ∙ k), longest_above_d y yb h)

  -- It is not above what no distance in the tree is above.
  pub longest_least : (m : ℕ) → ((y z : ℕ) → y < n → z < n → Mates F x y → Mates F x z → F.distance y z ≤ m)
      → longest n F x ≤ m
  longest_least m h = longest_least_d m (λ y yb k. d_least n F y m (λ z zb e. h y z yb zb k (k ∙ e)))

  -- Some two states of the tree are so far apart.
  pub longest_attained : x < n
      → (y : ℕ) × (z : ℕ) × (y < n) × (z < n) × (Mates F x y) × (Mates F x z) × (F.distance y z ≡ longest n F x)
  unfolding longest
  longest_attained l =
      let (y, yb, h, e) = largest_in_attained F x (d n F) n l in
      let (z, zb, k, q) = d_attained n F y yb in
      (y, z, yb, zb, h, h ∙ k, q ∙ e)

  -- All states of a tree have the same.
  pub longest_mate : (y : ℕ) → Mates F x y → longest n F x ≡ longest n F y
  unfolding longest
  longest_mate y h = largest_in_same n F F x y (d n F) (d n F) (λ z l k. (sym h ∙ k, refl)) (λ z l k. h ∙ k)

module _ (n : ℕ) (F G : Trees) (M : Metric F) (a b : ℕ) (ab : a < n) (bb : b < n) where
  -- The d of a state of a's tree is at most the longest path of the two trees joined.
  below : Bridge F G a b → (x : ℕ) → x < n → Mates F a x
      → d n G x ≤ max (max (longest n F a) (longest n F b)) (d n F a + d n F b + 1)
  below B x l h =
      omega (arith, bridged_d n F G a b B bb x h, longest_above_d n F a x l h, d_upper n F a x l h, M.flip a x h)

  -- The longest path of a's tree is at most that of the tree that comes of it.
  above : Bridge F G a b → longest n F a ≤ longest n G a
  above B =
      longest_least_d n F a _ (λ y l h.
      omega (arith, bridged_d n F G a b B bb y h, longest_above_d n G a y l (B.keep a y h)))

  -- So is the path from the state farthest from a over the pair to the state farthest from b.
  across : Bridge F G a b → d n F a + d n F b + 1 ≤ longest n G a
  across B =
      let (y, l, h, e) = d_attained n F a ab in
      omega (arith, bridged_d n F G a b B bb y h, longest_above_d n G a y l (B.keep a y h), M.flip a y h, e)

module _ (n : ℕ) (F : Trees) (u v : ℕ) (apart : ¬ Mates F u v) where
  -- For a state of neither tree a join changes nothing.
  pub joined-longest_other : (x : ℕ) → ¬ Mates F u x → ¬ Mates F v x → longest n (joined F u v) x ≡ longest n F x
  unfolding longest
  joined-longest_other x nu nv =
      let G : Trees = joined F u v in
      let B = joined_bridge F u v apart in
      sym (largest_in_same n F G x x (d n F) (d n G)
      (λ y l h. (B.keep x y h, sym (bridged_d_other n F G u v B y (λ e. nu (e ∙ sym h)) (λ e. nv (e ∙ sym h)))))
      (λ y l h. bridged_mates_other B x y nu nv h))

  module _ (M : Metric F) (ub : u < n) (vb : v < n) where
    -- At u the longest path of the joined tree is the one defined.
    at_first : longest n (joined F u v) u ≡ joined_longest n F u v
    unfolding joined_longest
    at_first =
        let G : Trees = joined F u v in
        let B = joined_bridge F u v apart in
        let C = turned B in
        let most : longest n G u ≤ max (max (longest n F u) (longest n F v)) (d n F u + d n F v + 1) =
        longest_least_d n G u _ (λ y l h. elim (bridged_mates B u y refl h) [
          | inl k ↦ below n F G M u v ub vb B y l k
          | inr k ↦ omega (arith, below n F G M v u vb ub C y l k)
        ]) in
        omega (
          arith,
          most,
          above n F G M u v ub vb B,
          above n F G M v u vb ub C,
          across n F G M u v ub vb B,
          longest_mate n G u v (B.meet u v refl refl),
        )

    -- So it is at every state of u's tree.
    pub joined-longest_first : (x : ℕ) → Mates F u x → longest n (joined F u v) x ≡ joined_longest n F u v
    joined-longest_first x h = sym (longest_mate n (joined F u v) u x ((joined_bridge F u v apart).keep u x h)) ∙ at_first

    -- And at every state of v's tree.
    pub joined-longest_second : (x : ℕ) → Mates F v x → longest n (joined F u v) x ≡ joined_longest n F u v
    joined-longest_second x h = sym (longest_mate n (joined F u v) u x ((joined_bridge F u v apart).meet u x refl h)) ∙ at_first

-- Where both trees keep to D, the joined one does just where the path over the pair does.
pub joined_longest_bound : (n D : ℕ) (F : Trees) (u v : ℕ) → longest n F u ≤ D → longest n F v ≤ D
    → (joined_longest n F u v ≤ D) ↔ (d n F u + d n F v + 1 ≤ D)
unfolding joined_longest
joined_longest_bound n D F u v lu lv = (λ h. omega arith, λ h. omega arith)
