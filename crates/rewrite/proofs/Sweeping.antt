-- The sweep over the classes with the defaults that stay.
use mathlib.Core.Path.{◌≡◌, refl, sym, ◌∙◌}
use mathlib.Core.List.{List}
use Prim.Native.Nat.{ℕ, ◌+◌, ◌≤◌, ◌<◌, max}
use native.Mathlib.Numerals.{add-one}
use native.Mathlib.Omega.{arith}
use lib.ListN.{length, get_or}
use Rattle.paper.specs.Below.{largest}
use Rattle.paper.specs.Table as table
use Rattle.paper.specs.View.{look, worst_hops}
use Rattle.paper.specs.Image.{image_view}
use Rattle.paper.specs.Results.{table_of}
use Rattle.paper.proofs.Below.{largest_same}
use Rattle.chains.specs.Sweeps.{Falls, Stores}
use Rattle.sweep.specs.Cursors.{Cursors}
use Rattle.abreast.proofs.Cursors.{cursor_start}
use Rattle.sweep.proofs.Worst.{farthest, worst-classes}
use Rattle.tally.specs.Owned.{list_view}
use Rattle.rewrite.specs.Staying.{Setting, Hopped}
use Rattle.rewrite.proofs.Standing.{table_reads, table_right}
use Rattle.rewrite.proofs.Stored.{root_stores, other_stores}

-- What holds before class c: the cursors stand before it, and the largest hops of the classes passed are known.
pub record Sweeping (b : List ℕ) (n k : ℕ) (stay : List ℕ) (c : ℕ) (cursor own hop : List ℕ) (worst : ℕ) : Type 0 where
  pub within : c ≤ k
  pub cursor_long : length cursor ≡ 513
  pub own_long : length own ≡ 512
  pub hop_long : length hop ≡ 512
  pub cursors : Cursors b c n cursor
  pub far : worst ≡ largest c (farthest (list_view (table_of b) stay) n)

module _ {b : List ℕ} {n k records : ℕ} {begins stay : List ℕ} (S : Setting b n k records begins stay) where
  -- The table has n states.
  counted : table.states (table_of b) ≡ n
  counted = omega (arith, (table_reads b S.readable S.accepted).states_is, S.states_are)

  -- Its view has the defaults of the list.
  pub stay_falls : Falls (list_view (table_of b) stay) n stay
  stay_falls = record { counted = counted; falls = λ s h. refl }

  -- Before class 0 the cursors stand where the entries begin.
  pub sweeping_start : (own hop : List ℕ) → length begins ≡ 513 → length own ≡ 512 → length hop ≡ 512 → Sweeping b n k stay 0 begins own hop 0
  sweeping_start own hop lb lo lh =
      record {
        within = omega arith;
        cursor_long = lb;
        own_long = lo;
        hop_long = lh;
        cursors = λ s h. (0, S.begin s (omega (arith, S.states_are)), cursor_start (image_view b) s);
        far = refl;
      }

  -- n is at most 512.
  pub few : n ≤ 512
  few = omega (arith, S.states_are, S.accepted.few_states)

  -- The largest of the hops that are kept for a class.
  farthest_kept : (c : ℕ) → c < k → (own hop : List ℕ) → Stores (image_view b) c n own → Hopped n stay own hop → largest n (λ s. get_or hop s 0) ≡ farthest (list_view (table_of b) stay) n c
  farthest_kept c hc own hop T H =
      let v = list_view (table_of b) stay in
      largest_same n (λ s. get_or hop s 0) (λ s. (look v s c).hops)
      (λ s h. sym (H.hops v c stay_falls (λ s hs e. (_, root_stores S c hc s hs e)) (λ s hs e. other_stores S c hc s hs e ∙ T s hs) s h))

  -- One class more.
  pub sweeping_more : {c : ℕ} {cursor own₀ hop₀ : List ℕ} {worst : ℕ} → Sweeping b n k stay c cursor own₀ hop₀ worst → c < k
      → (next own hop : List ℕ) → length next ≡ 513 → length own ≡ 512 → Cursors b (c + 1) n next → Stores (image_view b) c n own → Hopped n stay own hop
      → (more : ℕ) → more ≡ max worst (largest n (λ s. get_or hop s 0)) → Sweeping b n k stay (c + 1) next own hop more
  sweeping_more {c} {worst = worst} W hc next own hop ln lo C T H more q =
      record {
        within = omega arith;
        cursor_long = ln;
        own_long = lo;
        hop_long = H.long;
        cursors = C;
        far = rw (add-one c) (omega (arith, W.far, q, farthest_kept c hc own hop T H));
      }

  -- After the last class the worst is known.
  pub sweeping_done : {c : ℕ} {cursor own hop : List ℕ} {worst : ℕ} → Sweeping b n k stay c cursor own hop worst → k ≤ c
      → worst ≡ worst_hops (list_view (table_of b) stay) (table.class_of (table_of b))
  sweeping_done {c} W h =
      let e : c ≡ table.classes (table_of b) = omega (arith, W.within, S.classes_are, (table_reads b S.readable S.accepted).classes_is) in
      (rw e at W.far) ∙ worst-classes (list_view (table_of b) stay) n (table.classes (table_of b)) (table.class_of (table_of b)) counted (table_right b S.readable S.accepted).all_classed
