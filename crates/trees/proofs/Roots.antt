-- Each tree has one root, and it is a centre of the tree.
use mathlib.Core.Path.{◌≡◌, refl, sym, ◌∙◌}
use mathlib.Core.Bool.{Bool, true, false, cond, ◌&&◌, true≢false}
use mathlib.Core.Logic.{inl, inr}
use Prim.Native.Nat.{ℕ, zero, suc, ◌≤◌, ◌<◌}
use native.Mathlib.Omega.{arith}
use native.Mathlib.Decide.{ℕ_discrete}
use lib.Dec.{eqb}
use borrow.Author.Tests.{eq-eqb, ne_eqb, eqb-true}
use Rattle.paper.specs.Forest.{Trees, before, is_root_of, root}
use Rattle.paper.proofs.Below.{and_true, every_all, every_at, first_of_one}
use Rattle.paper.proofs.Join.{Mates}
use Rattle.trees.proofs.Centre.{Centre}
use Rattle.trees.proofs.Order.{before_total, before-chained, before_both, before-d}

module _ (n : ℕ) (lean : Trees → ℕ → ℕ) (F : Trees) where
  -- The state y goes before all states of x's tree that are below i.
  abbrev First : ℕ → ℕ → ℕ → Type 0
  First x i y = (z : ℕ) → z < i → Mates F x z → before n lean F y z ≡ true

  -- A state that goes before all of its tree is its root.
  pub is_root_first : (y : ℕ) → First y n y → is_root_of n lean F y ≡ true
  unfolding is_root_of
  is_root_first y f =
      every_all n _ (λ z l. elim (ℕ_discrete (F.tree y) (F.tree z)) [
        | yes e ↦ rw (eq-eqb (F.tree y) (F.tree z) e) (f z l e)
        | no e ↦ rw (ne_eqb (F.tree y) (F.tree z) e)
      ])

  -- A root goes before all states of its tree.
  pub first_is_root : (y : ℕ) → is_root_of n lean F y ≡ true → First y n y
  unfolding is_root_of
  first_is_root y t z l e =
      go (eqb (F.tree y) (F.tree z)) (eq-eqb (F.tree y) (F.tree z) e)
      (every_at n z (λ z. cond (eqb (F.tree y) (F.tree z)) (before n lean F y z) true) t l)
    where
      go : (b : Bool) → b ≡ true → cond b (before n lean F y z) true ≡ true → before n lean F y z ≡ true
      go true q h = h
      go false q h = absurd (true≢false (sym q))

  -- A tree has no two roots.
  pub is_root_one : (y z : ℕ) → y < n → z < n → Mates F y z → is_root_of n lean F y ≡ true → is_root_of n lean F z ≡ true → y ≡ z
  is_root_one y z yb zb m h k = before_both n lean F y z (first_is_root y h z zb m) (first_is_root z k y yb (sym m))

  -- A state more, that y goes before if it is of the tree.
  first_more : (x i y : ℕ) → First x i y → (Mates F x i → before n lean F y i ≡ true) → First x (suc i) y
  first_more x i y f h z l m = elim (ℕ_discrete z i) [ yes e ↦ rw e (h (rw e at m)) | no e ↦ f z (omega arith) m ]

  -- Some state of x's tree goes before all of them that are below i.
  first_found : (x i : ℕ) → x < n → i ≤ n → (r : ℕ) × (r < n) × (Mates F x r) × (First x i r)
  first_found x zero l h = (x, l, refl, λ z k. absurd (omega arith))
  first_found x (suc i) l h =
      let (r, rb, m, f) = first_found x i l (omega arith) in
      elim (before_total n lean F r i) [
        | inl b ↦ (r, rb, m, first_more x i r f (λ k. b))
        | inr b ↦ elim (ℕ_discrete (F.tree x) (F.tree i)) [
          | yes e ↦
              let own : before n lean F i i ≡ true = elim (before_total n lean F i i) [ inl k ↦ k | inr k ↦ k ] in
              (i, omega arith, e, first_more x i i (λ z k p. before-chained n lean F i r z b (f z k p)) (λ k. own))
          | no e ↦ (r, rb, m, first_more x i r f (λ k. absurd (e k)))
        ]
      ]

  -- The state r is a root of x's tree.
  pub record RootOf (x r : ℕ) : Type 0 where
    pub below : r < n
    pub mate : Mates F x r
    pub first : is_root_of n lean F r ≡ true

  -- There is no other than the one defined.
  pub root_one : (x r : ℕ) → RootOf x r → root n lean F x ≡ r
  unfolding root
  root_one x r R =
      rw (first_of_one n r (λ y. eqb (F.tree x) (F.tree y) && is_root_of n lean F y) R.below
      (rw (eq-eqb (F.tree x) (F.tree r) R.mate, R.first))
      (λ y yb t.
      let (e, h) = and_true (eqb (F.tree x) (F.tree y)) (is_root_of n lean F y) t in
      is_root_one y r yb R.below (sym (eqb-true _ _ e) ∙ R.mate) h R.first))

  -- The root of every state below n is the root of its tree: below n, in the tree, and before all of it.
  pub root_of : (x : ℕ) → x < n → RootOf x (root n lean F x)
  root_of x l =
      let (r, rb, m, f) = first_found x n l (omega arith) in
      let R : RootOf x r = record { below = rb; mate = m; first = is_root_first r (λ z k e. f z k (m ∙ e)) } in
      rw (root_one x r R) R

  -- All states of a tree have the same root.
  pub root_mate : (x y : ℕ) → y < n → Mates F x y → root n lean F x ≡ root n lean F y
  root_mate x y l m =
      let R = root_of y l in
      root_one x (root n lean F y) (record { below = R.below; mate = m ∙ R.mate; first = R.first })

  -- The root has the smallest d of its tree.
  pub root_centre : (x : ℕ) → x < n → Centre n F (root n lean F x)
  root_centre x l y yb m = before-d n lean F _ y (first_is_root (root n lean F x) (root_of x l).first y yb m)
