-- A view to which none of the grounds 8, 9 and 10 applies, as plain facts.
use mathlib.Core.Path.{◌≡◌, refl}
use mathlib.Core.Bool.{Bool, false, not, ◌&&◌, ◌||◌}
use mathlib.Core.Option.{Option, none, some}
use Prim.Native.Nat.{ℕ, suc, ◌≤◌, ◌<◌}
use native.Mathlib.Omega.{arith}
use lib.Dec.{ltb, leb}
use borrow.Author.Tests.{ltb-false, leb-false}
use Rattle.paper.specs.Below.{any, sum, differ, given}
use Rattle.paper.specs.View.{View, default_bad_of, record_bad_of, entry_class_bad, class_falls, any_entry}
use Rattle.paper.proofs.Below.{any_at, any_none}
use Rattle.paper.proofs.Tests.{or_both, not_differ, none≢some}
use Rattle.paper.proofs.Chain.{Inside, some_same}

-- The grounds 8, 9 and 10 as facts, for the stated m.
pub record Entered (v : View) (m : ℕ) : Type 0 where
  pub total : sum v.states v.count ≡ m
  pub inside : Inside v
  pub full : (s : ℕ) → s < v.states → v.default s ≡ none → v.count s ≡ v.classes
  pub few : (s : ℕ) → s < v.states → v.count s ≤ v.classes
  pub class_below : (s j : ℕ) → s < v.states → j < v.count s → v.entry_class s j < v.classes
  pub rises : (s j : ℕ) → s < v.states → suc j < v.count s → v.entry_class s j < v.entry_class s (suc j)
  pub next_below : (s j : ℕ) → s < v.states → j < v.count s → v.entry_next s j < v.states

-- A default that is not wrong is below n.
pub default_inside : (n d : ℕ) (o : Option ℕ) → default_bad_of n o ≡ false → o ≡ some d → d < n
default_inside n d none e q = absurd (none≢some none d refl q)
default_inside n d (some x) e q = omega (arith, leb-false n x e, some_same q)

-- A state without a default counts k entries.
root_full : (k count : ℕ) (o : Option ℕ) → not (given o) && differ count k ≡ false → o ≡ none → count ≡ k
root_full k count none e q = not_differ count k e
root_full k count (some d) e q = absurd (none≢some (some d) d q refl)

-- No pair of numbers passes.
pub any_two : (n i j : ℕ) (m : ℕ → ℕ) (p : ℕ → ℕ → Bool) → any n (λ i. any (m i) (p i)) ≡ false → i < n → j < m i → p i j ≡ false
any_two n i j m p e hi hj = any_at (m i) j (p i) (any_at n i (λ i. any (m i) (p i)) e hi) hj

-- And the other way.
pub any_neither : (n : ℕ) (m : ℕ → ℕ) (p : ℕ → ℕ → Bool) → ((i j : ℕ) → i < n → j < m i → p i j ≡ false) → any n (λ i. any (m i) (p i)) ≡ false
any_neither n m p h = any_none n (λ i. any (m i) (p i)) (λ i hi. any_none (m i) (p i) (λ j hj. h i j hi hj))

-- What these grounds leave.
pub entered : (v : View) (m : ℕ) → any v.states (record_bad_of v) || differ (sum v.states v.count) m ≡ false → any_entry v (entry_class_bad v) ≡ false
    → any_entry v (λ s j. leb v.states (v.entry_next s j)) ≡ false → Entered v m
entered v m g₈ g₉ g₁₀ =
    let n = v.states in
    let (records, totals) = or_both (any n (record_bad_of v)) _ g₈ in
    let at : (s : ℕ) → s < n → (default_bad_of n (v.default s) ≡ false) × ((ltb v.classes (v.count s) ≡ false) × (not (given (v.default s)) && differ (v.count s) v.classes ≡ false))
    = λ s hs. let (p, q) = or_both (default_bad_of n (v.default s)) _ (any_at n s (record_bad_of v) records hs) in (p, or_both (ltb v.classes (v.count s)) _ q) in
    let entry : (s j : ℕ) → s < n → j < v.count s → (leb v.classes (v.entry_class s j) ≡ false) × (class_falls v s j ≡ false)
    = λ s j hs hj. or_both (leb v.classes (v.entry_class s j)) _ (any_two n s j v.count (entry_class_bad v) g₉ hs hj) in
    record {
      total = not_differ _ _ totals;
      inside = λ s d hs q. default_inside n d (v.default s) (at s hs).0 q;
      full = λ s hs q. root_full v.classes (v.count s) (v.default s) (at s hs).1.1 q;
      few = λ s hs. ltb-false v.classes (v.count s) (at s hs).1.0;
      class_below = λ s j hs hj. leb-false v.classes (v.entry_class s j) (entry s j hs hj).0;
      rises = λ s j hs hj. leb-false (v.entry_class s (suc j)) (v.entry_class s j) (entry s (suc j) hs hj).1;
      next_below = λ s j hs hj. leb-false n (v.entry_next s j) (any_two n s j v.count (λ s j. leb n (v.entry_next s j)) g₁₀ hs hj);
    }
