-- The defaults of every order can be written: they are below n, and their chains end. Each is worth its hops.
use mathlib.Core.Path.{◌≡◌, refl, sym, subst}
use mathlib.Core.Bool.{false}
use mathlib.Core.List.{List}
use mathlib.Core.Option.{Option}
use Prim.Native.Nat.{ℕ}
use native.Mathlib.Decide.{ℕ_discrete}
use Rattle.paper.specs.Results.{table_view}
use Rattle.paper.specs.Forest.{toward_root}
use Rattle.paper.specs.FallBack.{toward_start}
use Rattle.paper.specs.Defaults.{defaults}
use Rattle.paper.specs.Rewrite.{not_worth}
use Rattle.paper.specs.Operations.{judge_table_of}
use Rattle.paper.proofs.Orders.{defaults-forest, defaults_toward}
use Rattle.paper.proofs.Worth.{worth}
use Rattle.facts.proofs.TableFacts.{accepted_table}
use Rattle.trees.proofs.Defaults.{defaults_below, defaults-chain}
use Rattle.trees.proofs.EntriesSum.{default_shares}
use Rattle.levels.proofs.FallBack.{falls, falls_inside, falls-ends}
use Rattle.trips.proofs.Writable.{Writable}

module _ (t : List ℕ) (e : judge_table_of t ≡ 0) where
  -- An accepted table with the defaults toward the roots of its forest can be written.
  forest_writable : (order D : ℕ) → Writable t (toward_root t order D)
  forest_writable order D =
      record {
        judged = e;
        inside = λ s d hs q. defaults_below t order D s d q;
        ends = λ s hs. let (l, q, _) = defaults-chain t order D (table_view t (toward_root t order D)) (λ x k. refl) s hs in (l, q);
      }

  -- So it can with the defaults toward the start.
  pub start_writable : Writable t (toward_start t)
  start_writable = record { judged = e; inside = falls_inside t; ends = falls-ends t (accepted_table t e) }

  -- So it can in every order.
  pub defaults_writable : (order D : ℕ) → Writable t (defaults t order D)
  defaults_writable order D =
      elim (ℕ_discrete order 3) [
        | yes q ↦ subst (Writable t) (sym (defaults_toward t order D q)) start_writable
        | no ne ↦ subst (Writable t) (sym (defaults-forest t order D ne)) (forest_writable order D)
      ]

-- In no order does a default share fewer than two classes with its state: in the orders 0 to 2 the pair of the two has a weight, in order 3 two classes are asked for.
pub defaults_worth : (t : List ℕ) (order D s : ℕ) → not_worth t s (defaults t order D s) ≡ false
defaults_worth t order D s =
    elim (ℕ_discrete order 3) [
      | yes q ↦ subst (λ (f : ℕ → Option ℕ). not_worth t s (f s) ≡ false) (sym (defaults_toward t order D q)) (worth t s (toward_start t s) (λ d e. (falls t s d e).two))
      | no ne ↦ subst (λ (f : ℕ → Option ℕ). not_worth t s (f s) ≡ false) (sym (defaults-forest t order D ne)) (worth t s (toward_root t order D s) (default_shares t order D s))
    ]
