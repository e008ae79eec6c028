-- The longest distances renewed one state after the other, for all states of both trees, with the old ones of u and v.
use mathlib.Core.Path.{◌≡◌, sym, ◌∙◌}
use mathlib.Core.List.{List}
use Prim.Native.Nat.{ℕ, ◌+◌, ◌≤◌, ◌<◌, max}
use native.Mathlib.Omega.{arith}
use lib.ListN.{length, get_or, set}
use Rattle.paper.specs.Forest.{Trees, joined, d}
use Rattle.paper.proofs.Join.{Mates}
use Rattle.trees.proofs.Farthest.{d_upper, joined-d_first, joined-d_second, joined-d_other}
use Rattle.joining.specs.Rooted.{Rooted}
use Rattle.joining.specs.Held.{Ready, Farther, Renewed}
use Rattle.joining.proofs.Filled.{filled_starts, filled-stored, filled-kept}

module _ (n u v : ℕ) (ub : u < n) (vb : v < n) (far parent tree new : List ℕ) where
  -- At the start nothing is renewed.
  pub renewed_starts : Renewed n u v far parent tree far 0
  renewed_starts F R = filled_starts (λ x a. a ≡ d n (joined F u v) x) far

  module _ (i : ℕ) (ib : i < n) (W : Renewed n u v far parent tree new i) where
    -- Whether two states lie in one tree stands in the array of numbers.
    mates : (x : ℕ) → x < n → get_or tree i 0 ≡ get_or tree x 0 → (F : Trees) → Ready n u v F far parent tree → Mates F x i
    mates x xb e F R = sym (R.held.numbers x xb) ∙ sym e ∙ R.held.numbers i ib

    -- The next state has its old distance still.
    still : (F : Trees) → Ready n u v F far parent tree → get_or new i 0 ≡ d n F i
    still F R = (W F R).rest i (omega arith) ∙ R.held.farthest i ib

    module _ (x y : ℕ) (xb : x < n) (yb : y < n) (to : (F : Trees) → Ready n u v F far parent tree → Rooted F parent x)
        (renews : (F : Trees) → Ready n u v F far parent tree → Mates F x i → d n (joined F u v) i ≡ max (d n F i) (F.distance i x + 1 + d n F y)) where
      -- A state of the tree of x, which is one of the pair and y the other.
      stored : (s : ℕ) → i < length new → get_or tree i 0 ≡ get_or tree x 0
          → Farther parent (get_or new i 0) i x (get_or far x 0) (get_or far y 0) s → Renewed n u v far parent tree (set new i s) (i + 1)
      stored s long e f F R =
          let H = R.held in
          let m = mates x xb e F R in
          let near : F.distance i x ≤ get_or far x 0 = omega (arith, H.farthest x xb, R.metric.flip x i m, d_upper n F x i ib m) in
          filled-stored (λ z a. a ≡ d n (joined F u v) z) far new i (W F R) s long
          (f F R.metric (to F R) m near ∙ rw (still F R, H.farthest y yb) (sym (renews F R m)))

    -- A state of u's tree.
    pub renewed_first : (s : ℕ) → i < length new → get_or tree i 0 ≡ get_or tree u 0
        → Farther parent (get_or new i 0) i u (get_or far u 0) (get_or far v 0) s → Renewed n u v far parent tree (set new i s) (i + 1)
    renewed_first = stored u v ub vb (λ F R. R.first) (λ F R. joined-d_first n F u v R.apart vb i)

    -- A state of v's tree.
    pub renewed_second : (s : ℕ) → i < length new → get_or tree i 0 ≡ get_or tree v 0
        → Farther parent (get_or new i 0) i v (get_or far v 0) (get_or far u 0) s → Renewed n u v far parent tree (set new i s) (i + 1)
    renewed_second = stored v u vb ub (λ F R. R.second) (λ F R. joined-d_second n F u v R.apart ub i)

    -- A state of neither tree.
    pub renewed_other : ¬ (get_or tree i 0 ≡ get_or tree u 0) → ¬ (get_or tree i 0 ≡ get_or tree v 0) → Renewed n u v far parent tree new (i + 1)
    renewed_other nu nv F R =
        let elsewhere : (x : ℕ) → x < n → ¬ (get_or tree i 0 ≡ get_or tree x 0) → ¬ Mates F x i =
        λ x xb ne m. ne (R.held.numbers i ib ∙ sym m ∙ sym (R.held.numbers x xb)) in
        filled-kept (λ x a. a ≡ d n (joined F u v) x) far new i (W F R)
        (R.held.farthest i ib ∙ sym (joined-d_other n F u v R.apart i (elsewhere u ub nu) (elsewhere v vb nv)))
