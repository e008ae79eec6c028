-- What a state does not keep it shares with its default: so the count of what it keeps tells whether its default is worth its hops.
use mathlib.Core.Path.{◌≡◌, refl, sym, ◌∙◌}
use mathlib.Core.Option.{Option, none, some}
use mathlib.Core.List.{List}
use Prim.Native.Nat.{ℕ, ◌+◌, ◌<◌}
use native.Mathlib.Decide.{dec_lt}
use native.Mathlib.Omega.{arith}
use lib.Dec.{ltb, eqb}
use lib.ListN.{get_or}
use borrow.Author.Tests.{lt-ltb, le-ltb}
use Rattle.paper.specs.Below.{any, how_many_of}
use Rattle.paper.specs.Table.{states, classes, next, shared}
use Rattle.paper.specs.Image.{default_from_of}
use Rattle.paper.specs.Rewrite.{not_worth}
use Rattle.paper.proofs.Below.{any_same}
use Rattle.paper.proofs.Counts.{count_both}
use Rattle.tally.specs.Kept.{kept, Counts, shares_few_of}

-- Of k classes so many are shared where the others are counted, and fewer than two just where k is below the count and two.
few_left : (k count few : ℕ) → count + few ≡ k → ltb few 2 ≡ ltb k (count + 2)
few_left k count few e =
    elim (dec_lt few 2) [
      | yes l ↦ lt-ltb few 2 l ∙ sym (lt-ltb k (count + 2) (omega arith))
      | no l ↦ le-ltb few 2 (omega arith) ∙ sym (le-ltb k (count + 2) (omega arith))
    ]

-- A default is not worth its hops just where its state shares few, if the count is of the classes that are not shared.
pub worth_counted : (t : List ℕ) (s k count : ℕ) (o : Option ℕ) → ((d : ℕ) → o ≡ some d → count + shared t s d ≡ k) → not_worth t s o ≡ shares_few_of k count o
worth_counted t s k count none h = refl
worth_counted t s k count (some d) h = few_left k count (shared t s d) (h d refl)

-- What a state keeps and what it shares with its default make k.
kept-shared : (t : List ℕ) (s d : ℕ) → how_many_of (classes t) (λ c. kept t s c (some d)) + shared t s d ≡ classes t
kept-shared t s d = omega (arith, count_both (classes t) (λ c. eqb (next t s c) (next t d c)))

-- So it is tested for all states by their counts.
pub worth_by_counts : (t : List ℕ) (n k : ℕ) (def counts : List ℕ) → n ≡ states t → k ≡ classes t → Counts t n def counts
    → (f : ℕ → Option ℕ) → ((s : ℕ) → s < n → f s ≡ default_from_of (get_or def s 0))
    → any (states t) (λ s. not_worth t s (f s)) ≡ any n (λ s. shares_few_of k (get_or counts s 0) (default_from_of (get_or def s 0)))
worth_by_counts t n k def counts N K counted f same =
    rw (← N)
    (any_same n (λ s. not_worth t s (f s)) (λ s. shares_few_of k (get_or counts s 0) (default_from_of (get_or def s 0)))
    (λ s h. rw (same s h, K) (worth_counted t s (classes t) (get_or counts s 0) (default_from_of (get_or def s 0))
    (λ d e. omega (arith, rw e at (counted s h), kept-shared t s d)))))
