-- Joining two different trees keeps the laws of distances. Each law is looked at from the tree of its first state x.
use mathlib.Core.Path.{◌≡◌, refl, sym, ◌∙◌, ap}
use mathlib.Core.Logic.{◌⊎◌, inl, inr}
use Prim.Native.Nat.{ℕ, ◌+◌, ◌≤◌}
use native.Mathlib.Omega.{arith}
use native.Mathlib.Decide.{ℕ_discrete}
use Rattle.paper.specs.Forest.{Trees, joined}
use Rattle.paper.proofs.Join.{Mates}
use Rattle.paper.proofs.Bridge.{Reached, Faces, Bridge, turned, joined_bridge}
use Rattle.trees.proofs.Metric.{Metric, Nearer}
use Rattle.trees.proofs.Seen.{seen, seen_between}

module _ (F G : Trees) (M : Metric F) (a b : ℕ) (B : Bridge F G a b) (x : ℕ) where
  -- No other state is at distance 0 from x.
  zero_over : (y : ℕ) → Reached F a b x y → G.distance x y ≡ 0 → x ≡ y
  zero_over y (inl k) e = M.apart0 x y k (sym (B.same x y k) ∙ e)
  zero_over y (inr (h, k)) e = absurd (omega (arith, B.over x y h k))

  -- There and back are equally far.
  flip_over : (y : ℕ) → Reached F a b x y → G.distance x y ≡ G.distance y x
  flip_over y s =
      let Y = seen F G M a b B x y s in
      omega (arith, Y.to x refl, Y.back x refl, M.flip x Y.at Y.mate)

  -- A way round is no shorter.
  tri_over : (y z : ℕ) → Reached F a b x y → Reached F a b x z → G.distance x z ≤ G.distance x y + G.distance y z
  tri_over y z (inl k) t =
      let Z = seen F G M a b B x z t in
      omega (arith, B.same x y k, Z.to y k, Z.to x refl, M.tri x y Z.at k Z.mate)
  tri_over y z (inr (h, k)) (inl l) = omega (arith, B.over x y h k, B.back y z k (h ∙ l), B.same x z l, M.tri x a z (sym h) l)
  tri_over y z (inr (h, k)) (inr (_, l)) = omega (arith, B.over x y h k, B.same y z (sym k ∙ l), B.over x z h l, M.tri b y z k l)

  -- The first step to a state is the first step to where it is seen.
  near_seen : (y : ℕ) (s : Reached F a b x y) → ¬ (x ≡ (seen F G M a b B x y s).at) → (z : ℕ) × Nearer G x y z
  near_seen y s ne =
      let Y = seen F G M a b B x y s in
      let (z, N) = M.near x Y.at Y.mate ne in (
        z,
        record {
          mate = B.keep x z N.mate;
          step = B.same x z N.mate ∙ N.step;
          less = omega (arith, Y.to x refl, Y.to z N.mate, N.less);
        },
      )

  -- And from a it is b.
  near_over : (y : ℕ) → Reached F a b x y → ¬ (x ≡ y) → (z : ℕ) × Nearer G x y z
  unfolding seen
  near_over y (inl k) ne = near_seen y (inl k) ne
  near_over y (inr (h, k)) ne =
      elim (ℕ_discrete x a) [
        | yes e ↦ (
          b,
          record {
            mate = B.meet x b h refl;
            step = omega (arith, B.over x b h refl, M.self b, M.self a, ap (λ (t : ℕ). F.distance t a) e);
            less = omega (arith, B.over x y h k, B.same b y k, M.self a, ap (λ (t : ℕ). F.distance t a) e);
          },
        )
        | no e ↦ near_seen y (inr (h, k)) e
      ]

  -- A step over the pair goes from a to b.
  pub over_ends : (p : ℕ) → Mates F a x → Mates F b p → G.distance x p ≡ 1 → (x ≡ a) × (b ≡ p)
  over_ends p h k e = (M.apart0 x a (sym h) (omega (arith, B.over x p h k)), M.apart0 b p k (omega (arith, B.over x p h k)))

  -- Of two neighbours one is nearer to a state.
  edge_over : (p w : ℕ) → Reached F a b x p → Reached F a b x w → G.distance x p ≡ 1
      → (G.distance w x + 1 ≡ G.distance w p) ⊎ (G.distance w p + 1 ≡ G.distance w x)
  edge_over p w (inl k) s e =
      let W = seen F G M a b B x w s in
      elim (M.edge x p W.at k W.mate (sym (B.same x p k) ∙ e)) [
        | inl q ↦ inl (omega (arith, W.back x refl, W.back p k))
        | inr q ↦ inr (omega (arith, W.back x refl, W.back p k))
      ]
  edge_over p w (inr (h, k)) (inl l) e =
      inl (omega (arith, B.same w x (sym l), B.over w p (h ∙ l) k, B.over x p h k, ap (F.distance w) (over_ends p h k e).0))
  edge_over p w (inr (h, k)) (inr (_, l)) e =
      let q = ap (F.distance w) (over_ends p h k e).1 in
      inr (omega (arith, B.back w x l h, B.same w p (sym l ∙ k), B.over x p h k, M.flip a x h, q))

  -- A path from the one side of two neighbours to the other goes over the two.
  cut_over : (p w r : ℕ) → Reached F a b x p → Reached F a b x w → Reached F a b x r → G.distance x p ≡ 1
      → G.distance w x + 1 ≡ G.distance w p → G.distance r p + 1 ≡ G.distance r x
      → G.distance w r ≡ G.distance w x + 1 + G.distance p r
  cut_over p w r (inl k) s t e c d =
      let W = seen F G M a b B x w s in
      let R = seen F G M a b B x r t in
      let f : F.distance W.at x + 1 ≡ F.distance W.at p = omega (arith, W.back x refl, W.back p k) in
      let g : F.distance R.at p + 1 ≡ F.distance R.at x = omega (arith, R.back x refl, R.back p k) in
      let ne : ¬ (W.at ≡ R.at) = λ q. absurd (omega (arith, ap (λ (t : ℕ). F.distance t x) q, ap (λ (t : ℕ). F.distance t p) q)) in
      let C = M.cut x p W.at R.at k W.mate R.mate (sym (B.same x p k) ∙ e) f g in
      omega (arith, seen_between F G M a b B x w r s t ne, W.back x refl, R.to p k, C)
  cut_over p w r (inr (h, k)) (inl l) (inl m) e c d =
      absurd (omega (arith, B.over r p (h ∙ m) k, B.same r x (sym m), ap (F.distance r) (over_ends p h k e).0))
  cut_over p w r (inr (h, k)) (inl l) (inr (_, m)) e c d =
      let (i, j) = over_ends p h k e in
      let q = ap (λ (t : ℕ). F.distance t r) j in
      omega (arith, B.over w r (h ∙ l) m, B.same w x (sym l), B.same p r (sym k ∙ m), ap (F.distance w) i, q)
  cut_over p w r (inr (h, k)) (inr (_, l)) t e c d =
      absurd (omega (arith, B.back w x l h, B.same w p (sym l ∙ k), ap (F.distance w) (over_ends p h k e).1))

-- The bridge as it is looked at from x.
from : (F G : Trees) (u v : ℕ) → Bridge F G u v → (x : ℕ) → (a : ℕ) × (b : ℕ) × (Bridge F G a b) × (Faces F G a b x)
from F G u v B x = elim (B.faces x) [ inl s ↦ (u, v, B, s) | inr s ↦ (v, u, turned B, s) ]

-- Joining two different trees keeps the metric.
pub joined_metric : (F : Trees) (u v : ℕ) → ¬ Mates F u v → Metric F → Metric (joined F u v)
joined_metric F u v apart M =
    let G : Trees = joined F u v in
    let B = joined_bridge F u v apart in
    record {
      self = λ x. B.same x x refl ∙ M.self x;
      apart0 = λ x y h. let (a, b, C, s) = from F G u v B x in zero_over F G M a b C x y (s y h);
      flip = λ x y h. let (a, b, C, s) = from F G u v B x in flip_over F G M a b C x y (s y h);
      tri = λ x y z h k. let (a, b, C, s) = from F G u v B x in tri_over F G M a b C x y z (s y h) (s z k);
      edge = λ x p w h k. let (a, b, C, s) = from F G u v B x in edge_over F G M a b C x p w (s p h) (s w k);
      cut = λ x p w r h k l. let (a, b, C, s) = from F G u v B x in cut_over F G M a b C x p w r (s p h) (s w k) (s r l);
      near = λ x y h. let (a, b, C, s) = from F G u v B x in near_over F G M a b C x y (s y h);
    }
