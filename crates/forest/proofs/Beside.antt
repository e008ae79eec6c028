-- The neighbours of each state counted from the parents are those of the tree: of two neighbours one is the other's parent, and never both.
use mathlib.Core.Path.{◌≡◌, refl, sym, ap, ◌∙◌}
use mathlib.Core.Bool.{Bool, true, false, ◌&&◌, true≢false}
use mathlib.Core.Logic.{◌⊎◌, inl, inr}
use mathlib.Core.List.{List}
use Prim.Native.Nat.{ℕ, ◌+◌, ◌*◌, ◌≤◌, ◌<◌}
use native.Mathlib.Omega.{arith}
use native.Mathlib.Decide.{ℕ_discrete}
use lib.Dec.{eqb}
use lib.ListN.{length, get_or, set}
use borrow.Author.Tests.{eq-eqb, ne_eqb, eqb-true, eqb-false, not-true}
use Rattle.paper.specs.Below.{sum, bit, how_many_of, differ}
use Rattle.paper.specs.Forest.{Trees, neighbours}
use Rattle.paper.proofs.Below.{and_true, bool_false}
use Rattle.paper.proofs.Sums.{sum_same, sum_add, sum_bound}
use Rattle.paper.proofs.Counts.{bit_le, count_same, count_none, pick_one}
use Rattle.paper.proofs.Join.{Mates}
use Rattle.trees.proofs.Metric.{Metric, Nearer, nearer_one}
use Rattle.trees.proofs.Inside.{Inside}
use Rattle.trees.proofs.Edges.{Neighbours}
use Rattle.trees.proofs.EdgeSums as test
use Rattle.trees.proofs.EdgeSums.{neighbours_hold, neighbours_true}
use Rattle.joining.specs.Rooted.{Rooted}
use Rattle.joining.specs.Held.{Held}
use Rattle.joining.proofs.Filled.{get_d_set}
use Rattle.forest.specs.Beside.{child_of, counts, NeighboursIn}

-- One more at a place.
abbrev more : List ℕ → ℕ → List ℕ
more l i = set l i (get_or l i 0 + 1)

-- There the number is one more, elsewhere it is the same.
more_at : (l : List ℕ) (i y : ℕ) → i < length l → get_or (more l i) y 0 ≡ get_or l y 0 + bit (eqb i y)
more_at l i y long =
    get_d_set (λ k. k ≡ get_or l y 0 + bit (eqb i y)) l i y (get_or l i 0 + 1) long
    (λ e. rw (e, eq-eqb i i refl) refl)
    (λ ne. rw (ne_eqb i y (λ q. ne (sym q))) (omega arith))

module _ (parent near : List ℕ) (i : ℕ) (N : NeighboursIn parent near i) where
  -- Each state counts at most twice for another, so the numbers stay small.
  pub near_small : (y : ℕ) → y < 512 → get_or near y 0 ≤ i * 2
  near_small y yb =
      omega (
        arith,
        N y yb,
        sum_bound i 2 (counts parent y) (λ z l. omega (arith, bit_le (differ (get_or parent z 0) z && eqb z y), bit_le (child_of parent z y))),
      )

  -- After one more at a place they still are.
  pub more_small : (y : ℕ) → y < 512 → i < length near → get_or (more near i) y 0 ≤ i * 2 + 1
  more_small y yb long = omega (arith, more_at near i y long, near_small y yb, bit_le (eqb i y))

-- A second test that fails.
and_false : (a : Bool) → a && false ≡ false
and_false true = refl
and_false false = refl

-- The number a is below n where the test passes: below n it is counted as often as the test.
pick_if : (n a : ℕ) (b : Bool) → (b ≡ true → a < n) → how_many_of n (λ z. b && eqb a z) ≡ bit b
pick_if n a true h = pick_one n a (h refl)
pick_if n a false h = count_none n

-- The state z has y as its parent, and is not its own.
abbrev Child : List ℕ → ℕ → ℕ → Type 0
Child parent z y = (¬ (get_or parent z 0 ≡ z)) × (get_or parent z 0 ≡ y)

-- The test says it.
child_true : (parent : List ℕ) (z y : ℕ) → Child parent z y → child_of parent z y ≡ true
child_true parent z y c = rw (ne_eqb (get_or parent z 0) z c.0, eq-eqb (get_or parent z 0) y c.1)

true_child : (parent : List ℕ) (z y : ℕ) → child_of parent z y ≡ true → Child parent z y
true_child parent z y e =
    let (a, b) = and_true (differ (get_or parent z 0) z) (eqb (get_or parent z 0) y) e in
    (eqb-false _ _ (not-true _ a), eqb-true _ _ b)

module _ (n : ℕ) (F : Trees) (M : Metric F) (I : Inside n F) (far parent tree : List ℕ) (H : Held n F far parent tree) where
  -- The parent of a state that is not its own is a neighbour nearer to the state that the parents lead to.
  child_nearer : (z y : ℕ) → z < n → Child parent z y → (r : ℕ) × (Mates F z r) × (Rooted F parent r) × (Nearer F z r y)
  child_nearer z y zb c =
      let (r, m, R) = H.roots z zb in
      elim (ℕ_discrete z r) [
        | yes e ↦ absurd (c.0 (ap (λ (k : ℕ). get_or parent k 0) e ∙ R.own ∙ sym e))
        | no ne ↦ (r, m, R, rw (← c.1) (R.up z (sym m) ne))
      ]

  -- So it is a neighbour.
  child_neighbours : (z y : ℕ) → z < n → Child parent z y → Neighbours F z y
  child_neighbours z y zb c = let (r, m, R, N) = child_nearer z y zb c in (N.mate, N.step)

  -- No two states have each other as parents.
  child_once : (z y : ℕ) → z < n → Child parent z y → ¬ Child parent y z
  child_once z y zb c k =
      let (r, m, R, N) = child_nearer z y zb c in
      elim (ℕ_discrete y r) [
        | yes e ↦ k.0 (ap (λ (x : ℕ). get_or parent x 0) e ∙ R.own ∙ sym e)
        | no ne ↦
            let K : Nearer F y r z = rw k.1 at (R.up y (sym m ∙ N.mate) ne) in
            omega (arith, N.less, K.less)
      ]

  -- Of two neighbours the one is the other's parent.
  neighbours_child : (y z : ℕ) → y < n → Neighbours F y z → Child parent y z ⊎ Child parent z y
  neighbours_child y z yb (m, e) =
      let (r, h, R) = H.roots y yb in
      let fy = M.flip y r h in
      let fz = M.flip z r (sym m ∙ h) in
      let step : F.distance z y ≡ 1 = sym (M.flip y z m) ∙ e in
      elim (M.edge y z r m h e) [
        | inl f ↦ inr (one r R z y (sym h ∙ m) (λ q. omega (arith, f, ap (F.distance r) q, M.self r)) (record { mate = sym m; step = step; less = omega (arith, fy, fz) }))
        | inr f ↦ inl (one r R y z (sym h) (λ q. omega (arith, f, ap (F.distance r) q, M.self r)) (record { mate = m; step = e; less = omega (arith, fy, fz) }))
      ]
    where
      one : (r : ℕ) → Rooted F parent r → (a b : ℕ) → Mates F r a → ¬ (a ≡ r) → Nearer F a r b → Child parent a b
      one r R a b h ne N =
          let U = R.up a h ne in
          let q = nearer_one F M a r (get_or parent a 0) b (sym h) U N in
          (λ w. omega (arith, U.less, ap (λ (k : ℕ). F.distance k r) w), q)

  -- At each state a neighbour counts once, as parent or as child.
  beside : (y z : ℕ) → y < n → z < n → bit (test.neighbours F y z) ≡ bit (child_of parent y z) + bit (child_of parent z y)
  beside y z yb zb = go (child_of parent y z) refl (child_of parent z y) refl
    where
      go : (a : Bool) → child_of parent y z ≡ a → (b : Bool) → child_of parent z y ≡ b → bit (test.neighbours F y z) ≡ bit a + bit b
      go true a true b = absurd (child_once y z yb (true_child parent y z a) (true_child parent z y b))
      go true a false b = rw (neighbours_true F y z (child_neighbours y z yb (true_child parent y z a)))
      go false a true b =
          let (m, e) = child_neighbours z y zb (true_child parent z y b) in
          rw (neighbours_true F y z (sym m, sym (M.flip z y m) ∙ e))
      go false a false b =
          rw (bool_false (test.neighbours F y z) (λ t. elim (neighbours_child y z yb (neighbours_hold F y z t)) [
            | inl c ↦ true≢false (sym (child_true parent y z c) ∙ a)
            | inr c ↦ true≢false (sym (child_true parent z y c) ∙ b)
          ]))

  -- What all states count for y is the number of its neighbours.
  pub counted_neighbours : (y : ℕ) → y < n → sum n (counts parent y) ≡ neighbours n F y
  unfolding neighbours
  counted_neighbours y yb =
      let other : Bool = differ (get_or parent y 0) y in
      let at : how_many_of n (λ z. differ (get_or parent z 0) z && eqb z y) ≡ bit other =
      count_same n (λ z. differ (get_or parent z 0) z && eqb z y) (λ z. other && eqb y z) (λ z l. turn z) ∙ pick_if n y other (λ e. yb) in
      let up : how_many_of n (child_of parent y) ≡ bit other =
      pick_if n (get_or parent y 0) other (λ e. I y (get_or parent y 0) yb (child_neighbours y (get_or parent y 0) yb (eqb-false _ _ (not-true _ e), refl)).0) in
      sum_add n (λ z. bit (differ (get_or parent z 0) z && eqb z y)) (λ z. bit (child_of parent z y))
      ∙ ap (λ (k : ℕ). k + how_many_of n (λ z. child_of parent z y)) (at ∙ sym up)
      ∙ sym (sum_add n (λ z. bit (child_of parent y z)) (λ z. bit (child_of parent z y)))
      ∙ sym (sum_same n _ _ (λ z l. beside y z yb l))
    where
      turn : (z : ℕ) → differ (get_or parent z 0) z && eqb z y ≡ differ (get_or parent y 0) y && eqb y z
      turn z =
          elim (ℕ_discrete y z) [
            | yes e ↦ rw e refl
            | no ne ↦ rw (ne_eqb y z ne, ne_eqb z y (λ q. ne (sym q))) (and_false (differ (get_or parent z 0) z) ∙ sym (and_false (differ (get_or parent y 0) y)))
          ]
