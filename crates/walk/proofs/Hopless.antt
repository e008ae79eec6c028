-- A walk makes no hops.
use mathlib.Core.Path.{◌≡◌, refl}
use mathlib.Core.Bool.{Bool, true, false, cond}
use mathlib.Core.List.{List, [], ◌∷◌}
use Prim.Native.Nat.{ℕ, zero, suc, ◌/◌}
use native.Mathlib.Omega.{arith}
use lib.ListN.{length}
use Rattle.paper.specs.Refusals.{first}
use Rattle.paper.specs.Scan.{Run, begun, walk_of}
use Rattle.paper.specs.Operations.{scanning, walk_grounds, walk}
use Rattle.running.proofs.Bytewise.{next, fits}
use Rattle.running.specs.Rules.{table_rules, going}

module _ (t : List ℕ) (most : ℕ) where
  -- One byte more.
  abbrev more : Run → ℕ → Run
  more = next (table_rules t).look (table_rules t).class_of (table_rules t).labels

  -- From where there are none there are none.
  going_hopless : (xs : List ℕ) (r : Run) → r.hops ≡ 0 → (going (table_rules t) most xs r).hops ≡ 0
  going_hopless [] r e = e
  going_hopless (x ∷ xs) r e = pick (fits (table_rules t).look (table_rules t).class_of (table_rules t).labels most r x) (going_hopless xs (more r x) (omega arith))
    where
      pick : (o : Bool) → (going (table_rules t) most xs (more r x)).hops ≡ 0 → (cond o (going (table_rules t) most xs (more r x)) r).hops ≡ 0
      pick true h = h
      pick false h = e

scanning_hopless : (v : ℕ) (r : Run) (room : List ℕ) → r.hops ≡ 0 → (scanning v r room).hops ≡ 0
scanning_hopless zero r room e = e
scanning_hopless (suc v) r room e = refl

-- On acceptance and refusal alike.
pub walk_hops : (t : List ℕ) (s : ℕ) (payload room : List ℕ) → (walk t s payload room).hops ≡ 0
unfolding walk walk_of
walk_hops t s payload room = scanning_hopless (first (walk_grounds t s payload)) (walk_of t s payload (length room)) room (going_hopless t (length room / 6) payload (begun s) refl)
