-- Write: what its tests show of the list of defaults, and what it answers on each ground and on none.
use mathlib.Core.Path.{◌≡◌, sym, ap, ◌∙◌}
use mathlib.Core.Bool.{true, false, ◌||◌}
use mathlib.Core.List.{List, [], ◌∷◌}
use Prim.Native.Nat.{ℕ, ◌*◌, ◌<◌}
use native.Mathlib.Omega.{arith}
use lib.Dec.{ltb}
use lib.ListN.{length, get_or}
use Rattle.paper.specs.Below.{any, differ}
use Rattle.paper.specs.Refusals.{Ground, first}
use Rattle.paper.specs.Table.{states, classes}
use Rattle.paper.specs.View.{default_bad_of, endless}
use Rattle.paper.specs.Image.{default_from_of}
use Rattle.paper.specs.Results.{table_view, image_of}
use Rattle.paper.specs.Rewrite.{not_worth}
use Rattle.paper.specs.Operations.{judge_table_of, listed, write_grounds, write}
use Rattle.paper.specs.Promises.{Writes}
use Rattle.paper.proofs.Below.{any_at}
use Rattle.paper.proofs.Tests.{or_both, not_differ}
use Rattle.facts.proofs.EntryFacts.{default_inside}
use Rattle.table.proofs.Decided.{Decided, passed, applies}
use Rattle.chains.specs.Orders.{defaults_view, InRange}
use Rattle.chains.proofs.Defaults.{from_some}
use Rattle.chains.proofs.Agrees.{endless-agrees}
use Rattle.tally.specs.Kept.{Counts, shares_few_of}
use Rattle.tally.proofs.Shared.{worth_by_counts}
use Rattle.build.specs.Measured.{list_image_of, Fills}
use Rattle.build.specs.Values.{list_bad_of, Values}
use Rattle.build.proofs.Lists.{list-falls, list_image}
use Rattle.build.proofs.Grounds.{refuses, table_refused, table_passed, fills_same}

-- A list of defaults that is not refused is 2n bytes.
pub list_long : (ds : List ℕ) (n : ℕ) → list_bad_of ds n ≡ false → length ds ≡ 2 * n
list_long ds n B = not_differ (length ds) (2 * n) (or_both (differ (length ds) (2 * n)) (any n (λ s. default_bad_of n (listed ds s))) B).0

values_listed : (ds : List ℕ) (n : ℕ) (def : List ℕ) → Values ds n def → (s : ℕ) → s < n → listed ds s ≡ default_from_of (get_or def s 0)
values_listed ds n def held s h = ap default_from_of (sym (held s h))

-- Its values are in range.
pub values_range : (ds : List ℕ) (n : ℕ) (def : List ℕ) → list_bad_of ds n ≡ false → Values ds n def → InRange n def
values_range ds n def B held s h z =
    let (_, w) = or_both (differ (length ds) (2 * n)) (any n (λ s. default_bad_of n (listed ds s))) B in
    default_inside n (get_or def s 0) (listed ds s) (any_at n s (λ s. default_bad_of n (listed ds s)) w h) (values_listed ds n def held s h ∙ from_some (get_or def s 0) z)

module _ (t ds room : List ℕ) (number l : ℕ) where
  -- The grounds after the table's.
  abbrev rest : List Ground
  rest =
      (8, differ (length ds) (2 * states t) || any (states t) (λ s. default_bad_of (states t) (listed ds s)))
      ∷ (11, any (states t) (endless (table_view t (listed ds))))
      ∷ (25, any (states t) (λ s. not_worth t s (listed ds s)))
      ∷ (16, ltb (length room) (length (image_of t (listed ds))))
      ∷ []

  -- A table that is refused.
  pub write_judged : number ≡ judge_table_of t → ¬ (number ≡ 0) → l ≡ 0 → Writes t ds room number l room
  unfolding write write_grounds
  write_judged e n q = refuses (write_grounds t ds (length room)) (image_of t (listed ds)) room number l (table_refused t rest number e n) n q

  module _ (e : judge_table_of t ≡ 0) (n : ℕ) (N : n ≡ states t) where
    left : Decided (first (write_grounds t ds (length room))) rest
    unfolding write_grounds
    left = table_passed t rest e

    -- Ground 8.
    pub write_bad : list_bad_of ds n ≡ true → number ≡ 8 → l ≡ 0 → Writes t ds room number l room
    unfolding write
    write_bad b h q =
        refuses (write_grounds t ds (length room)) (image_of t (listed ds)) room number l (h ∙ applies left (ap (list_bad_of ds) (sym N) ∙ b)) (λ z. omega arith) q

    module _ (B : list_bad_of ds n ≡ false) (def : List ℕ) (held : Values ds n def) where
      past8 : Decided (first (write_grounds t ds (length room))) ((11, any (states t) (endless (table_view t (listed ds)))) ∷ (25, any (states t) (λ s. not_worth t s (listed ds s))) ∷ (16, ltb (length room) (length (image_of t (listed ds)))) ∷ [])
      past8 = passed left (ap (list_bad_of ds) (sym N) ∙ B)

      agrees : any (states t) (endless (table_view t (listed ds))) ≡ any n (endless (defaults_view n def))
      agrees = endless-agrees (list-falls t (listed ds) n def N (values_listed ds n def held)) (values_range ds n def B held)

      -- Ground 11.
      pub write-endless : any n (endless (defaults_view n def)) ≡ true → number ≡ 11 → l ≡ 0 → Writes t ds room number l room
      unfolding write
      write-endless z h q =
          refuses (write_grounds t ds (length room)) (image_of t (listed ds)) room number l (h ∙ applies past8 (agrees ∙ z)) (λ z. omega arith) q

      module _ (z : any n (endless (defaults_view n def)) ≡ false) (k : ℕ) (K : k ≡ classes t) (counts : List ℕ) (counted : Counts t n def counts) where
        past11 : Decided (first (write_grounds t ds (length room))) ((25, any (states t) (λ s. not_worth t s (listed ds s))) ∷ (16, ltb (length room) (length (image_of t (listed ds)))) ∷ [])
        past11 = passed past8 (agrees ∙ z)

        -- By the counts some default is not worth its hops, or none is.
        weighed : any (states t) (λ s. not_worth t s (listed ds s)) ≡ any n (λ s. shares_few_of k (get_or counts s 0) (default_from_of (get_or def s 0)))
        weighed = worth_by_counts t n k def counts N K counted (listed ds) (values_listed ds n def held)

        -- Ground 25.
        pub write_not_worth : any n (λ s. shares_few_of k (get_or counts s 0) (default_from_of (get_or def s 0))) ≡ true → number ≡ 25 → l ≡ 0 → Writes t ds room number l room
        unfolding write
        write_not_worth w h q =
            refuses (write_grounds t ds (length room)) (image_of t (listed ds)) room number l (h ∙ applies past11 (weighed ∙ w)) (λ z. omega arith) q

        -- Ground 16, or the image.
        pub write_fills : (after : List ℕ) → any n (λ s. shares_few_of k (get_or counts s 0) (default_from_of (get_or def s 0))) ≡ false → Fills (list_image_of t def) room number l after
            → Writes t ds room number l after
        unfolding write
        write_fills after w F =
            fills_same (list_image_of t def) (image_of t (listed ds)) room after number l (first (write_grounds t ds (length room))) F
            (list_image t (listed ds) n def N (values_range ds n def B held) (values_listed ds n def held))
            (passed past11 (weighed ∙ w))
