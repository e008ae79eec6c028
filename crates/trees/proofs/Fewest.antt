-- Fewest entries: where D is n - 1 or more no list of defaults whose chains end has fewer entries and defaults together than the forest's.
use mathlib.Core.Path.{◌≡◌, refl, ap}
use mathlib.Core.List.{List}
use mathlib.Core.Option.{Option, none, some}
use Prim.Native.Nat.{ℕ, ◌+◌, ◌*◌, ◌≤◌, ◌<◌}
use native.Mathlib.Omega.{arith}
use lib.ListN.{length}
use Rattle.paper.specs.Below.{sum, how_many_of, bit, given, or}
use Rattle.paper.specs.Table.{states, classes}
use Rattle.paper.specs.View.{chain}
use Rattle.paper.specs.Results.{stored_entries, table_view}
use Rattle.paper.specs.Forest.{weight, toward_root}
use Rattle.paper.proofs.Sums.{sum_le, sum_add, sum_constant}
use Rattle.paper.proofs.Chain.{Inside, chain-default}
use Rattle.trees.proofs.FallSums.{default_value, fall_sum}
use Rattle.trees.proofs.StateEntries.{stored-root, stored-shared}
use Rattle.trees.proofs.EntriesSum.{entries-sum}
use Rattle.trees.proofs.Outweigh.{Falls, forest_outweighs}

module _ (t : List ℕ) where
  -- What a state stores, whether it has a default, and the weight of the two are no less than k.
  state_least : (f : ℕ → Option ℕ) (s : ℕ) → classes t ≤ length (stored_entries t f s) + (bit (given (f s)) + default_value (f s) (weight t s))
  unfolding weight
  state_least f s = go (f s) refl
    where
      go : (o : Option ℕ) → f s ≡ o → classes t ≤ length (stored_entries t f s) + (bit (given o) + default_value o (weight t s))
      go none q = omega (arith, stored-root t f s q)
      go (some d) q = omega (arith, stored-shared t f s d q)

  -- So the entries, the defaults and the weights of the defaults of any list are no less than n times k.
  entries_least : (f : ℕ → Option ℕ) → states t * classes t ≤ sum (states t) (λ s. length (stored_entries t f s)) + (how_many_of (states t) (λ s. given (f s)) + fall_sum (states t) (weight t) f)
  entries_least f =
      let n = states t in
      let stored : ℕ → ℕ = λ s. length (stored_entries t f s) in
      let used : ℕ → ℕ = λ s. bit (given (f s)) in
      let shares : ℕ → ℕ = λ s. default_value (f s) (weight t s) in
      omega (
        arith,
        sum_constant n (classes t),
        sum_le n (λ s. classes t) (λ s. stored s + (used s + shares s)) (λ s h. state_least f s),
        sum_add n stored (λ s. used s + shares s),
        sum_add n used shares,
      )

  -- The entries and the defaults of a list together.
  abbrev pub transitions : (ℕ → Option ℕ) → ℕ
  transitions f = sum (states t) (λ s. length (stored_entries t f s)) + how_many_of (states t) (λ s. given (f s))

  -- In the orders 0, 1 and 2 they are the fewest over all lists of defaults below n whose chains end, where D is n - 1 or more.
  pub fewest : (order D : ℕ) → states t ≤ D + 1 → (f : ℕ → Option ℕ) → Inside (table_view t f)
      → ((s : ℕ) → s < states t → (l : ℕ) × (chain (table_view t f) (states t) s ≡ some l)) → transitions (toward_root t order D) ≤ transitions f
  fewest order D large f inside ends =
      omega (arith, entries-sum t order D, entries_least f, forest_outweighs t order D large f rank falls)
    where
      rank : ℕ → ℕ
      rank s = or (chain (table_view t f) (states t) s) 0

      falls : Falls (states t) f rank
      falls s d h q =
          let (l, e) = ends s h in
          let (k, e', less) = chain-default (table_view t f) (states t) s d l e q in
          let ranked = ap (λ (o : Option ℕ). or o 0) e in
          let ranked' = ap (λ (o : Option ℕ). or o 0) e' in
          (inside s d h q, omega (arith, ranked, ranked', less))
