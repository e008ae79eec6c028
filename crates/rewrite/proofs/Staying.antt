-- The defaults that stay, by the counts: they are in range, their chains end, and the counts after are those of the table with them.
use mathlib.Core.Path.{◌≡◌, refl, sym, ap, ◌∙◌}
use mathlib.Core.Bool.{Bool, true, false, cond, not}
use mathlib.Core.Logic.{◌⊎◌, inl, inr}
use mathlib.Core.List.{List}
use mathlib.Core.Option.{Option, none, some}
use Prim.Native.Nat.{ℕ, ◌<◌}
use native.Mathlib.Decide.{ℕ_discrete}
use native.Mathlib.Omega.{arith}
use lib.ListN.{length, get_or}
use borrow.Author.Tests.{eq-eqb, ne_eqb}
use Rattle.paper.specs.Below.{any, how_many_of, given}
use Rattle.paper.specs.Words.{Bytes}
use Rattle.paper.specs.Table as table
use Rattle.paper.specs.View.{endless}
use Rattle.paper.specs.Image.{states, classes, default, default_from_of, count, image_view}
use Rattle.paper.specs.Results.{table_view, table_of}
use Rattle.paper.specs.Rewrite.{not_worth, kept, rewritten}
use Rattle.paper.proofs.Below.{any_none, any_at, any_same}
use Rattle.paper.proofs.Counts.{count_all}
use Rattle.paper.proofs.Worth.{kept_worth, kept_dropped, kept_either}
use Rattle.facts.proofs.ImageFacts.{AcceptedImage}
use Rattle.trips.proofs.Rewritten.{rewritten_writable, rewritten_same}
use Rattle.chains.specs.Orders.{defaults_view, InRange}
use Rattle.chains.specs.Sweeps.{Falls}
use Rattle.chains.proofs.Defaults.{from_none, from_some}
use Rattle.chains.proofs.Agrees.{endless-agrees}
use Rattle.tally.specs.Kept.{kept_count, Counts, shares_few_of}
use Rattle.tally.specs.Kept as tally
use Rattle.tally.proofs.Shared.{worth_counted}
use Rattle.build.specs.Measured.{list_image_of}
use Rattle.build.proofs.Lists.{list-falls, list_image}
use Rattle.build.proofs.Rows.{entries-count}
use Rattle.build.proofs.Same.{entries_at}
use Rattle.rewrite.specs.Staying.{StayNumbers, count_after_of, CountsAfter, RecordCounts, Stays}
use Rattle.rewrite.proofs.Standing.{judged, table_reads, views_agree, count-shared}

module _ (b : List ℕ) (B : Bytes b) (A : AcceptedImage b) (n k : ℕ) (N : n ≡ states b) (K : k ≡ classes b) where
  -- The table.
  abbrev t : List ℕ
  t = table_of b

  -- By its count the default of a state is worth its hops, or it is not.
  weighed : (s : ℕ) → s < n → not_worth t s (default b s) ≡ shares_few_of k (count b s) (default b s)
  weighed s h = worth_counted t s k (count b s) (default b s) (λ d e. omega (arith, count-shared b B A s d (omega arith) e))

  -- So the numbers are those of the defaults that stay.
  pub stays_are : (counts def stay : List ℕ) → RecordCounts b n counts → Falls (image_view b) n def → StayNumbers k n counts def stay → Stays b n stay
  stays_are counts def stay C F S s h =
      rw (S s h, C s h, ← F.falls s h) (go (shares_few_of k (count b s) (default b s)) refl)
    where
      go : (x : Bool) → shares_few_of k (count b s) (default b s) ≡ x → default_from_of (cond x 65535 (get_or def s 0)) ≡ kept t s (default b s)
      go true e = from_none 65535 refl ∙ sym (kept_dropped t s (default b s) (weighed s h ∙ e))
      go false e = sym (F.falls s h) ∙ sym (kept_worth t s (default b s) (weighed s h ∙ e))

  -- Whether some default is not worth its hops, by the counts.
  pub weak_by_counts : (counts def : List ℕ) → RecordCounts b n counts → Falls (image_view b) n def
      → any n (λ s. shares_few_of k (get_or counts s 0) (default_from_of (get_or def s 0))) ≡ any n (λ s. not_worth t s (default b s))
  weak_by_counts counts def C F = any_same n _ _ (λ s h. rw (C s h, ← F.falls s h) (sym (weighed s h)))

  -- Where none is so, the image is its own rewriting.
  pub none_weak : any n (λ s. not_worth t s (default b s)) ≡ false → rewritten b ≡ b
  none_weak e = rewritten_same b B (judged b B A) (λ s h. any_at n s (λ s. not_worth t s (default b s)) e (omega (arith, N)))

  module _ (stay : List ℕ) (S : Stays b n stay) where
    -- A default that stays is the image's.
    pub stays_there : (s : ℕ) → s < n → ¬ (get_or stay s 0 ≡ 65535) → default b s ≡ some (get_or stay s 0)
    stays_there s h e = go (kept_either t s (default b s))
      where
        go : (kept t s (default b s) ≡ none) ⊎ (kept t s (default b s) ≡ default b s) → default b s ≡ some (get_or stay s 0)
        go (inl q) = let z : some (get_or stay s 0) ≡ none = sym (from_some (get_or stay s 0) e) ∙ S s h ∙ q in absurd (omega (arith, ap (λ (o : Option ℕ). length_of o) z))
          where
            length_of : Option ℕ → ℕ
            length_of none = 0
            length_of (some x) = 1
        go (inr q) = sym q ∙ sym (S s h) ∙ from_some (get_or stay s 0) e

    -- They are in range.
    pub stay_range : InRange n stay
    stay_range s h e = omega (arith, A.right.inside s (get_or stay s 0) (omega arith) (stays_there s h e))

    -- None of their chains is endless.
    pub stay_ends : any n (endless (defaults_view n stay)) ≡ false
    stay_ends =
        let f : ℕ → Option ℕ = λ s. kept t s (default b s) in
        let T : n ≡ table.states t = omega (arith, (table_reads b B A).states_is) in
        sym (endless-agrees (list-falls t f n stay T (λ s h. sym (S s h))) stay_range)
        ∙ any_none (table.states t) (endless (table_view t f)) (λ s h. let (_, q) = (rewritten_writable b B (judged b B A)).ends s h in ap (λ (o : Option ℕ). not (given o)) q)

    -- The rewritten image is that of the table with them.
    pub stay_image : rewritten b ≡ list_image_of (table_of b) stay
    unfolding rewritten
    stay_image = sym (list_image t (λ s. kept t s (default b s)) n stay (omega (arith, (table_reads b B A).states_is)) stay_range (λ s h. sym (S s h)))

    -- The counts after are those of the table with them.
    pub counts_are : (before counts : List ℕ) → RecordCounts b n before → CountsAfter k n before stay counts → Counts t n stay counts
    counts_are before counts C W s h = rw (W s h, C s h) (go (ℕ_discrete (get_or stay s 0) 65535))
      where
        go : Dec (get_or stay s 0 ≡ 65535) → count_after_of k (count b s) (get_or stay s 0) ≡ kept_count t (table.classes t) s (get_or stay s 0)
        go (yes e) =
            let all : kept_count t (table.classes t) s (get_or stay s 0) ≡ table.classes t =
            ap (λ (o : Option ℕ). how_many_of (table.classes t) (λ c. tally.kept t s c o)) (from_none (get_or stay s 0) e) ∙ count_all (table.classes t) (λ c. true) (λ c hc. refl) in
            ap (λ (x : Bool). cond x k (count b s)) (eq-eqb (get_or stay s 0) 65535 e) ∙ omega (arith, K, (table_reads b B A).classes_is, all)
        go (no e) =
            let same : default b s ≡ default_from_of (get_or stay s 0) = stays_there s h e ∙ sym (from_some (get_or stay s 0) e) in
            let f : ℕ → Option ℕ = λ s. default_from_of (get_or stay s 0) in
            ap (λ (x : Bool). cond x k (count b s)) (ne_eqb (get_or stay s 0) 65535 e)
            ∙ sym ((views_agree b B A).count_same s (omega (arith, (table_reads b B A).states_is)))
            ∙ ap (λ (l : List (ℕ × ℕ)). length l) (entries_at t (default b) f s same)
            ∙ entries-count t stay s
