-- The number of states of a tree: no path of the tree has more, so no distance reaches n.
use mathlib.Core.Path.{◌≡◌, refl, sym, ◌∙◌}
use mathlib.Core.Bool.{Bool, true, false}
use mathlib.Core.Logic.{inl, inr}
use Prim.Native.Nat.{ℕ, ◌+◌, ◌-◌, ◌≤◌, ◌<◌}
use native.Mathlib.Omega.{arith}
use native.Mathlib.Decide.{ℕ_discrete}
use lib.Dec.{eqb}
use borrow.Author.Tests.{eq-eqb, ne_eqb}
use Rattle.paper.specs.Below.{bit, how_many_of}
use Rattle.paper.specs.Forest.{Trees, singles, joined, d, longest, joined_longest}
use Rattle.paper.proofs.Counts.{count_two, count_none, count_le, count-found}
use Rattle.paper.proofs.Join.{Mates}
use Rattle.paper.proofs.Bridge.{Reached, Bridge, turned, joined_bridge}
use Rattle.trees.proofs.Farthest.{d_least}
use Rattle.trees.proofs.Longest.{longest_least_d}

-- The state is in x's tree.
abbrev pub is_mate : Trees → ℕ → ℕ → Bool
is_mate F x z = eqb (F.tree x) (F.tree z)

-- The number of states below n of x's tree.
abbrev pub size : ℕ → Trees → ℕ → ℕ
size n F x = how_many_of n (is_mate F x)

module _ (F : Trees) (x z : ℕ) where
  -- A state of the tree counts 1.
  bit_mate : Mates F x z → bit (is_mate F x z) ≡ 1
  bit_mate h = rw (eq-eqb (F.tree x) (F.tree z) h)

  -- Any other counts 0.
  bit_other : ¬ Mates F x z → bit (is_mate F x z) ≡ 0
  bit_other h = rw (ne_eqb (F.tree x) (F.tree z) h)

module _ (n : ℕ) (F : Trees) (p : ℕ → Bool) (x : ℕ) (own : (z : ℕ) → Mates F x z → p z ≡ true) where
  -- A tree of which every state passes a test has no more states than pass it.
  size_within : size n F x ≤ how_many_of n p
  size_within =
      omega (
        arith,
        count_none n,
        count_two n (is_mate F x) (λ z. false) p (λ z l. elim (ℕ_discrete (F.tree x) (F.tree z)) [
          | yes e ↦ rw (bit_mate F x z e, own z e) (omega arith)
          | no e ↦ rw (bit_other F x z e) (omega arith)
        ]),
      )

  -- Two trees of which every state passes have together no more.
  sizes_within : (y : ℕ) → ¬ Mates F x y → ((z : ℕ) → Mates F y z → p z ≡ true) → size n F x + size n F y ≤ how_many_of n p
  sizes_within y apart other =
      count_two n (is_mate F x) (is_mate F y) p (λ z l. elim (ℕ_discrete (F.tree x) (F.tree z)) [
        | yes e ↦ rw (bit_mate F x z e, bit_other F y z (λ h. apart (e ∙ sym h)), own z e) (omega arith)
        | no e ↦ rw (bit_other F x z e) (elim (ℕ_discrete (F.tree y) (F.tree z)) [
          | yes h ↦ rw (bit_mate F y z h, other z h) (omega arith)
          | no h ↦ rw (bit_other F y z h) (omega arith)
        ])
      ])

-- The states of a path are not more than those of its tree.
abbrev pub Sized : ℕ → Trees → Type 0
Sized n F = (x y : ℕ) → x < n → Mates F x y → F.distance x y + 1 ≤ size n F x

-- A single state is one state.
pub singles_sized : (n : ℕ) → Sized n singles
unfolding singles
singles_sized n x y l h = count-found n x (is_mate singles x) l (eq-eqb x x refl)

module _ (n : ℕ) (F G : Trees) (a b : ℕ) (bb : b < n) (apart : ¬ Mates F a b) (B : Bridge F G a b) (S : Sized n F) where
  -- A path over the pair has the states of two paths.
  sized_over : (x y : ℕ) → x < n → Reached F a b x y → G.distance x y + 1 ≤ size n G x
  sized_over x y l (inl k) =
      omega (arith, B.same x y k, S x y l k, size_within n F (is_mate G x) x (λ z e. eq-eqb _ _ (B.keep x z e)))
  sized_over x y l (inr (h, k)) =
      omega (
        arith,
        B.over x y h k,
        S x a l (sym h),
        S b y bb k,
        sizes_within n F (is_mate G x) x (λ z e. eq-eqb _ _ (B.keep x z e)) b (λ e. apart (h ∙ e)) (λ z e. eq-eqb _ _ (B.meet x z h e)),
      )

-- Joining two different trees keeps that.
pub joined_sized : (n : ℕ) (F : Trees) (u v : ℕ) → ¬ Mates F u v → u < n → v < n → Sized n F → Sized n (joined F u v)
joined_sized n F u v apart ub vb S x y l h =
    let G : Trees = joined F u v in
    let B = joined_bridge F u v apart in
    elim (B.faces x) [
      | inl s ↦ sized_over n F G u v vb apart B S x y l (s y h)
      | inr s ↦ sized_over n F G v u ub (λ e. apart (sym e)) (turned B) S x y l (s y h)
    ]

module _ (n : ℕ) (F : Trees) (S : Sized n F) where
  -- So no distance reaches n.
  pub distance_below : (x y : ℕ) → x < n → Mates F x y → F.distance x y < n
  distance_below x y l h = omega (arith, S x y l h, count_le n (λ z. true), size_within n F (λ z. true) x (λ z e. refl))

  -- Nor are those of the longest path from x.
  d-size : (x : ℕ) → x < n → d n F x + 1 ≤ size n F x
  d-size x l = omega (arith, S x x l refl, d_least n F x (size n F x - 1) (λ y yb h. omega (arith, S x y l h)))

  -- The longest path of two different trees joined does not reach n either, so that a D of n - 1 or more binds nothing.
  pub joined_longest_below : (u v : ℕ) → ¬ Mates F u v → u < n → v < n → joined_longest n F u v < n
  unfolding joined_longest
  joined_longest_below u v apart ub vb =
      omega (
        arith,
        d-size u ub,
        d-size v vb,
        count_le n (λ z. true),
        short u,
        short v,
        sizes_within n F (λ z. true) u (λ z e. refl) v apart (λ z e. refl),
      )
    where
      short : (x : ℕ) → longest n F x ≤ n - 1
      short x =
          longest_least_d n F x _ (λ y l h. omega (arith, d-size y l, count_le n (λ z. true), size_within n F (λ z. true) y (λ z e. refl)))
