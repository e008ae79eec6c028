-- Joining the best pair of a weight again and again: what the arrays become.
use mathlib.Core.Path.{◌≡◌, refl, sym, ◌∙◌}
use mathlib.Core.List.{List}
use Prim.Native.Nat.{ℕ, ◌+◌, ◌≤◌, ◌<◌}
use native.Mathlib.Omega.{arith}
use native.Mathlib.Decide.{dec_lt}
use lib.Dec.{eqb}
use lib.ListN.{get_or, replicate, get_or-replicate}
use Rattle.paper.specs.Forest.{Trees, joined, rest}
use Rattle.paper.proofs.Counts.{count_le}
use Rattle.paper.specs.BestPair.{Weighs, Viable}
use Rattle.trees.proofs.Viable.{viable_before, rest_grows}
use Rattle.trees.proofs.Best.{level_of, level_joins, level-ends}
use Rattle.trees.proofs.TreeCount.{tree_count, tree_count_some, tree_count_joined}
use Rattle.joining.specs.Held.{Joined, Whole}
use Rattle.pairs.specs.Taken.{is_taken}
use Rattle.greedy.specs.Good.{Good, Becomes}
use Rattle.pairs.specs.Keys.{key_in}
use Rattle.best.specs.Longs.{LongestIn}
use Rattle.std.proofs.Common.{Option, Some, None}
use Rattle.best.specs.declared.Pick.{Pick}
use Rattle.best.specs.Searched.{Searched, Relaxed}
use Rattle.greedy.proofs.Pair.{pair_joined}
use Rattle.greedy.proofs.Level.{Under, viable_small, floors_held, floors_back, picked_none, picked_best}

module _ (n order D : ℕ) (weight : ℕ → ℕ → ℕ) (w : ℕ) where
  -- What the pairs of the weight make of trees.
  abbrev level : Trees → Trees
  level = level_of n (rest order n) D weight w

  -- From F came, by so many joins, trees that the arrays hold: of both the pairs of the weight make the same, and the rows' floors are floors there.
  pub record Reached (joins : ℕ) (F : Trees) (far parent tree low : List ℕ) : Type 0 where
    pub trees : Trees
    pub good : Good n D trees far parent tree
    pub same : level trees ≡ level F
    pub fewer : tree_count n trees + joins ≤ n
    pub under : Under n order D weight w trees low

  -- So it is with any trees that the arrays held before.
  pub record Joins (joins : ℕ) (far₀ parent₀ tree₀ far parent tree low : List ℕ) : Type 0 where
    pub whole : Whole far parent tree
    pub from : (F : Trees) → Good n D F far₀ parent₀ tree₀ → Reached joins F far parent tree low

  -- The floors after a join: in orders 0 and 1 what a pair goes by only rises, in others a row that holds a pair has the floor 0.
  relaxed_under : (F : Trees) (u v : ℕ) → Viable n D F (u, v) → (low new : List ℕ) → Relaxed order n low new
      → ((q : ℕ × ℕ) → Weighs n weight w q → Viable n D F q → (get_or low q.0 0 ≤ rest order n F q) × (rest order n F q < 65536))
      → Under n order D weight w (joined F u v) new
  relaxed_under F u v able low new R floors q W can =
      let (less, fit) = floors q W (viable_before n D F u v able.apart q can) in
      let r = R q.0 (omega (arith, W.rising, W.inside)) in
      elim (dec_lt order 2) [
        | yes l ↦ omega (arith, less, r.0, rest_grows n D F u v able.apart order l q)
        | no l ↦ omega (arith, r.1 (omega arith) (omega (arith, less, fit)))
      ]

  module _ (small : n ≤ 512) (bound : D < 65536) where
    -- Before the first join.
    pub joins_start : (far parent tree : List ℕ) → Whole far parent tree → Joins 0 far parent tree far parent tree (replicate 512 0)
    joins_start far parent tree whole =
        record {
          whole = whole;
          from = λ F G. record {
            trees = F;
            good = G;
            same = refl;
            fewer = omega (arith, count_le n (λ x. eqb (F.tree x) x));
            under = λ q W able. omega (arith, get_or-replicate {A = ℕ} 512 q.0 0 0 (omega (arith, small, W.rising, W.inside)));
          };
        }

    module _ (joins : ℕ) (far₀ parent₀ tree₀ far parent tree low₀ : List ℕ) (J : Joins joins far₀ parent₀ tree₀ far parent tree low₀) where
      module _ (long : List ℕ) (longs : LongestIn n far tree long) (low : List ℕ) where
        -- What a search of all rows has found, by the arrays.
        abbrev pub Sought : Option Pick → Type 0
        Sought found =
            Searched n (λ x y. is_taken (weight x y) w (get_or tree x 0) (get_or tree y 0) (get_or far x 0) (get_or far y 0) D) (key_in order far long) n low₀ low found

        -- No pair is found: all are taken.
        pub joins_none : Sought None → Becomes n D level far₀ parent₀ tree₀ far parent tree
        joins_none S =
            record {
              whole = J.whole;
              good = λ F G.
                  let R = J.from F G in
                  let leads = S.ahead (floors_held n order D weight w small bound far parent tree long longs R.trees R.good low₀ R.under) in
                  let none = picked_none n order D weight w small bound far parent tree long longs R.trees R.good leads in
                  rw (sym R.same ∙ level-ends n (rest order n) D weight w R.trees none) R.good;
            }

        -- The pair found is joined, and the floors are relaxed.
        pub joins_more : (p : Pick) → Sought (Some p) → (far' parent' tree' new : List ℕ) → Joined n p.u p.v far parent tree far' parent' tree'
            → Relaxed order n low new → Joins (joins + 1) far₀ parent₀ tree₀ far' parent' tree' new
        joins_more p S far' parent' tree' new step relaxed =
            record {
              whole = step.whole;
              from = λ F G.
                  let R = J.from F G in
                  let H = R.trees in
                  let g = R.good.grown in
                  let held = floors_held n order D weight w small bound far parent tree long longs H R.good low₀ R.under in
                  let B = picked_best n order D weight w small bound far parent tree long longs H R.good p S.one (S.ahead held) in
                  record {
                    trees = joined H p.u p.v;
                    good = pair_joined n D p.u p.v B.weighs.rising B.weighs.inside H far parent tree R.good B.viable far' parent' tree' step;
                    same = sym (level_joins n (rest order n) D weight w H (p.u, p.v) B) ∙ R.same;
                    fewer = omega (arith, R.fewer, tree_count_joined n H g.inside g.named p.u p.v B.viable.apart B.weighs.inside);
                    under = relaxed_under H p.u p.v B.viable low new relaxed (λ q W able. (
                      floors_back n order D weight w small bound far parent tree long longs H R.good low (S.floors held) q W able,
                      viable_small n order D weight w small bound far parent tree long longs H R.good q W able,
                    ));
                  };
            }

      -- After n joins there is no tree left, so no pair.
      pub joins_all : joins ≡ n → Becomes n D level far₀ parent₀ tree₀ far parent tree
      joins_all e =
          record {
            whole = J.whole;
            good = λ F G.
                let R = J.from F G in
                let g = R.good.grown in
                let ends = level-ends n (rest order n) D weight w R.trees (λ q W able.
                omega (arith, R.fewer, e, tree_count_some n R.trees g.inside g.named q.1 W.inside)) in
                rw (sym R.same ∙ ends) R.good;
          }
