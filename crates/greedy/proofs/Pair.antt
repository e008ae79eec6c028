-- One pair in its turn: what the arrays say of it is what decides whether it is added.
use mathlib.Core.Path.{◌≡◌, refl, sym, ◌∙◌, ap}
use mathlib.Core.Bool.{Bool, true, false, cond, ◌&&◌}
use mathlib.Core.List.{List}
use mathlib.Core.Logic.{◌↔◌}
use Prim.Native.Nat.{ℕ, ◌+◌, ◌≤◌, ◌<◌}
use native.Mathlib.Omega.{arith}
use native.Mathlib.Decide.{dec_le}
use lib.Dec.{leb, eqb}
use lib.ListN.{get_or}
use borrow.Author.Tests.{lt-ltb, le-leb, lt-leb, leb-true, eq-eqb, ne_eqb, eqb-true, eqb-false, not-true}
use Rattle.paper.specs.Below.{differ}
use Rattle.paper.specs.Forest.{Trees, joined, d, joined_longest, added_or_dropped}
use Rattle.paper.proofs.Below.{and_true}
use Rattle.paper.specs.Levels.{looked}
use Rattle.trees.proofs.Longest.{joined_longest_bound}
use Rattle.trees.proofs.Grown.{added_grown}
use Rattle.paper.specs.BestPair.{Viable}
use Rattle.joining.specs.Held.{Joined}
use Rattle.pairs.specs.Taken.{is_taken}
use Rattle.greedy.specs.Good.{Good}

-- Two numbers of which both or neither keep to D are tested alike.
same_bound : (a b D : ℕ) → (a ≤ D) ↔ (b ≤ D) → leb a D ≡ leb b D
same_bound a b D (to, from) =
    elim (dec_le a D) [
      | yes l ↦ le-leb a D l ∙ sym (le-leb b D (to l))
      | no l ↦ let k : ¬ (b ≤ D) = λ h. l (from h) in lt-leb a D (omega arith) ∙ sym (lt-leb b D (omega arith))
    ]

-- Two tests, one after the other, are one.
both_tests : {A : Type 0} (a b : Bool) (x y : A) → cond a (cond b x y) y ≡ cond (a && b) x y
both_tests true b x y = refl
both_tests false b x y = refl

module _ (n D u v : ℕ) (uv : u < v) (vb : v < n) (F : Trees) (far parent tree : List ℕ) (G : Good n D F far parent tree) where
  -- The test of different trees and of the joined tree's longest path, by the arrays.
  test_held : differ (F.tree u) (F.tree v) && leb (joined_longest n F u v) D
      ≡ differ (get_or tree u 0) (get_or tree v 0) && leb (get_or far u 0 + get_or far v 0 + 1) D
  test_held =
      let ub : u < n = omega arith in
      let H = G.held in
      let e = same_bound (joined_longest n F u v) (d n F u + d n F v + 1) D (joined_longest_bound n D F u v (G.grown.short u) (G.grown.short v)) in
      rw (H.numbers u ub, H.numbers v vb, H.farthest u ub, H.farthest v vb, e)

  -- The trees of a pair that can be added, joined, are held.
  pub pair_joined : Viable n D F (u, v) → (far' parent' tree' : List ℕ) → Joined n u v far parent tree far' parent' tree'
      → Good n D (joined F u v) far' parent' tree'
  pair_joined able far' parent' tree' J =
      record {
        grown = added_grown n D (λ x y. 1) F u v G.grown (record {
          rising = uv;
          inside = vb;
          heavy = omega arith;
          apart = able.apart;
          short = able.short;
        });
        held = J.holds F G.grown.metric G.grown.inside able.apart G.held;
      }

  module _ (weight : ℕ → ℕ → ℕ) (w : ℕ) where
    -- The test as it stands of a pair in its turn.
    abbrev pub Test : Bool → Type 0
    Test b = b ≡ is_taken (weight u v) w (get_or tree u 0) (get_or tree v 0) (get_or far u 0) (get_or far v 0) D

    -- The pair is added where the test passes.
    looked_test : (b : Bool) → Test b → looked n D weight w F u v ≡ cond b (joined F u v) F
    unfolding added_or_dropped
    looked_test b e =
        rw (lt-ltb u v uv, test_held)
        (both_tests (eqb (weight u v) w) (differ (get_or tree u 0) (get_or tree v 0) && leb (get_or far u 0 + get_or far v 0 + 1) D) (joined F u v) F
        ∙ ap (λ (t : Bool). cond t (joined F u v) F) (sym e))

    -- Where it fails the trees stay as they are.
    pub pair_dropped : Test false → Good n D (looked n D weight w F u v) far parent tree
    pair_dropped e = rw (looked_test false e) G

    -- A pair for which it passes is one of different trees, and the joined tree keeps to D.
    pub test_viable : Test true → (weight u v ≡ w) × Viable n D F (u, v)
    test_viable e =
        let (same, test) = and_true (eqb (weight u v) w) _ (sym e) in
        let (apart, short) = and_true (differ (F.tree u) (F.tree v)) (leb (joined_longest n F u v) D) (test_held ∙ test) in
        (eqb-true (weight u v) w same, record { apart = eqb-false (F.tree u) (F.tree v) (not-true _ apart); short = leb-true _ _ short })

    -- For any such pair it passes.
    pub viable_test : weight u v ≡ w → Viable n D F (u, v) → is_taken (weight u v) w (get_or tree u 0) (get_or tree v 0) (get_or far u 0) (get_or far v 0) D ≡ true
    viable_test e able =
        rw (
          eq-eqb (weight u v) w e,
          ← test_held,
          ne_eqb (F.tree u) (F.tree v) able.apart,
          le-leb (joined_longest n F u v) D able.short,
        )

    -- Where it passes they are joined.
    pub pair_added : Test true → (far' parent' tree' : List ℕ) → Joined n u v far parent tree far' parent' tree'
        → Good n D (looked n D weight w F u v) far' parent' tree'
    pair_added e far' parent' tree' J = rw (looked_test true e) (pair_joined (test_viable e).1 far' parent' tree' J)
