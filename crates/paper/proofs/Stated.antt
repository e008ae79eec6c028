-- The stated depth and worst: where all chains end, the number that is computed for the depth is that of the longest chain; where every look-up finds a
-- next state, the number that is computed for the worst is that of the largest hops; and of each there is only one.
use mathlib.Core.Path.{◌≡◌, sym, ap, ◌∙◌}
use mathlib.Core.Option.{Option, some}
use Prim.Native.Nat.{ℕ, suc, ◌+◌, ◌<◌}
use native.Mathlib.Omega.{arith}
use Rattle.paper.specs.Below.{differ, or}
use Rattle.paper.specs.View.{View, Found, here, chain, find, look, depth_of, worst_hops}
use Rattle.paper.specs.Sentences.{Ends, LongestChain, Serves, LargestHops}
use Rattle.paper.proofs.Tests.{Holds, holds_differ}
use Rattle.paper.proofs.Chain.{some_same, chain-ends, chain_short, ends-chain, chain_more, depth-longest, depth_met}
use Rattle.paper.proofs.Look.{look_serves, serves_find, worst_upper, worst_met}

module _ (v : View) where
  -- The chain of a state ends after one number of steps only.
  pub ends_once : (left s l k : ℕ) → chain v left s ≡ some l → Ends v s k → k ≡ l
  ends_once left s l k e E =
      let far = left + suc k in
      some_same (sym (ends-chain v far s k E (omega arith)) ∙ chain_more v left far s l e (omega arith))

  -- There is one longest chain's number.
  pub longest_once : (a b : ℕ) → LongestChain v a → LongestChain v b → a ≡ b
  longest_once a b A B =
      let (s, hs, E) = A.one_so_long in
      let (r, hr, G) = B.one_so_long in
      omega (arith, B.none_longer s a hs E, A.none_longer r b hr G)

  -- There is one number of largest hops.
  pub largest_once : (class_of : ℕ → ℕ) (a b : ℕ) → LargestHops v class_of a → LargestHops v class_of b → a ≡ b
  largest_once class_of a b A B =
      let (s, hs, (x, hx, (p, t, S))) = A.one_so_many in
      let (r, hr, (y, hy, (q, u, R))) = B.one_so_many in
      omega (arith, B.none_more s x p a t hs hx S, A.none_more r y q b u hr hy R)

  module _ (states : 0 < v.states) (ends : (s : ℕ) → s < v.states → (l : ℕ) × (chain v v.states s ≡ some l)) where
    -- The depth is that of the longest chain.
    pub depth_is_longest : LongestChain v (depth_of v)
    depth_is_longest =
        record {
          none_longer = λ s k hs E. let (l, e) = ends s hs in omega (arith, ends_once v.states s l k e E, depth-longest v s l hs e);
          one_so_long = let (s, hs, e) = depth_met v states ends in (s, hs, chain-ends v v.states s (depth_of v) e);
        }

    -- A stated depth differs just where it is not that.
    pub holds_depth : (depth : ℕ) → Holds (differ depth (depth_of v)) (¬ LongestChain v depth)
    holds_depth depth =
        let h = holds_differ depth (depth_of v) in
        (λ e L. h.0 e (longest_once depth (depth_of v) L depth_is_longest), λ n. h.1 (λ e. n (rw e depth_is_longest)))

    module _ (class_of : ℕ → ℕ) (finds : (s x : ℕ) → s < v.states → x < 256 → (r : Found) × (find v s (class_of x) ≡ some r)) where
      -- What the look-up finds is what the chain gives.
      pub finds_serves : (s x : ℕ) → s < v.states → x < 256 → Serves v s (class_of x) (look v s (class_of x)).server (look v s (class_of x)).hops (look v s (class_of x)).target
      finds_serves s x hs hx =
          let (r, w) = finds s x hs hx in
          let found : look v s (class_of x) ≡ r = ap (λ (o : Option Found). or o (here 0 0)) w in
          rw found (look_serves v (class_of x) v.states s r w)

      -- The worst is that of the largest hops.
      pub worst_is_largest : LargestHops v class_of (worst_hops v class_of)
      worst_is_largest =
          record {
            none_more = λ s x server hops target hs hx S.
                let (l, e) = ends s hs in
                let w = serves_find v (class_of x) s l server hops target e (chain_short v v.states s l e) S in
                omega (arith, worst_upper v class_of s x hs hx, ap (λ (o : Option Found). (or o (here 0 0)).hops) w);
            one_so_many =
                let (s, x, hs, hx, q) = worst_met v class_of states in
                (s, hs, (x, hx, ((look v s (class_of x)).server, (look v s (class_of x)).target, rw (← q) (finds_serves s x hs hx))));
          }

      -- A stated worst differs just where it is not that.
      pub holds_worst : (worst : ℕ) → Holds (differ worst (worst_hops v class_of)) (¬ LargestHops v class_of worst)
      holds_worst worst =
          let h = holds_differ worst (worst_hops v class_of) in
          (λ e L. h.0 e (largest_once class_of worst (worst_hops v class_of) L worst_is_largest), λ n. h.1 (λ e. n (rw e worst_is_largest)))
