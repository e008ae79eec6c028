-- A view of which none of the grounds 8 to 13 holds, as plain facts, and back.
use mathlib.Core.Path.{◌≡◌, refl, ap}
use mathlib.Core.Bool.{false, not, ◌&&◌}
use mathlib.Core.Option.{Option, none, some}
use Prim.Native.Nat.{ℕ, zero, suc, ◌≤◌, ◌<◌}
use lib.Dec.{ltb, leb}
use borrow.Author.Tests.{le-ltb, lt-leb}
use Rattle.paper.specs.Below.{any, sum, differ, given}
use Rattle.paper.specs.View.{View, chain, depth_of, worst_hops, endless, default_bad_of, record_bad_of, entry_class_bad, class_falls, same_as_default, view_grounds}
use Rattle.paper.proofs.Below.{any_at, any_none}
use Rattle.paper.proofs.Refusals.{Clear}
use Rattle.paper.proofs.Tests.{or_both, or_neither, not_differ, same_differ, given_some}
use Rattle.paper.proofs.Chain.{Inside}
use Rattle.facts.proofs.EntryFacts.{entered, any_two, any_neither}

-- The grounds 8 to 12 as facts.
pub record Sound (v : View) : Type 0 where
  pub full : (s : ℕ) → s < v.states → v.default s ≡ none → v.count s ≡ v.classes
  pub inside : Inside v
  pub few : (s : ℕ) → s < v.states → v.count s ≤ v.classes
  pub class_below : (s j : ℕ) → s < v.states → j < v.count s → v.entry_class s j < v.classes
  pub rises : (s j : ℕ) → s < v.states → suc j < v.count s → v.entry_class s j < v.entry_class s (suc j)
  pub next_below : (s j : ℕ) → s < v.states → j < v.count s → v.entry_next s j < v.states
  pub ends : (s : ℕ) → s < v.states → (l : ℕ) × (chain v v.states s ≡ some l)
  pub needed : (s j : ℕ) → s < v.states → j < v.count s → same_as_default v s j ≡ false

-- The stated numbers are the view's.
pub record Stated (v : View) (class_of : ℕ → ℕ) (m depth worst : ℕ) : Type 0 where
  pub total : sum v.states v.count ≡ m
  pub deep : depth ≡ depth_of v
  pub far : worst ≡ worst_hops v class_of

-- What the grounds leave.
pub view_facts : (v : View) (class_of : ℕ → ℕ) (m depth worst : ℕ) → Clear (view_grounds v class_of m depth worst) → Sound v × Stated v class_of m depth worst
unfolding view_grounds
view_facts v class_of m depth worst (g₈, (g₉, (g₁₀, (g₁₁, (g₁₂, (g₁₃, _)))))) =
    let E = entered v m g₈ g₉ g₁₀ in
    let (deeps, fars) = or_both (differ depth (depth_of v)) _ g₁₃ in (
      record {
        full = E.full;
        inside = E.inside;
        few = E.few;
        class_below = E.class_below;
        rises = E.rises;
        next_below = E.next_below;
        ends = λ s hs. given_some (chain v v.states s) (any_at v.states s (endless v) g₁₁ hs);
        needed = λ s j hs hj. any_two v.states s j v.count (same_as_default v) g₁₂ hs hj;
      },
      record { total = E.total; deep = not_differ _ _ deeps; far = not_differ _ _ fars },
    )

module _ (v : View) (A : Sound v) where
  record_right : (s : ℕ) → s < v.states → record_bad_of v s ≡ false
  record_right s hs =
      or_neither (default_bad_of v.states (v.default s)) _ (below (v.default s) refl)
      (or_neither (ltb v.classes (v.count s)) _ (le-ltb v.classes (v.count s) (A.few s hs)) (root (v.default s) refl))
    where
      below : (o : Option ℕ) → v.default s ≡ o → default_bad_of v.states o ≡ false
      below none q = refl
      below (some d) q = lt-leb v.states d (A.inside s d hs q)

      root : (o : Option ℕ) → v.default s ≡ o → not (given o) && differ (v.count s) v.classes ≡ false
      root none q = same_differ (v.count s) v.classes (A.full s hs q)
      root (some d) q = refl

  entry_right : (s j : ℕ) → s < v.states → j < v.count s → entry_class_bad v s j ≡ false
  entry_right s j hs hj = or_neither (leb v.classes (v.entry_class s j)) _ (lt-leb v.classes (v.entry_class s j) (A.class_below s j hs hj)) (up j hj)
    where
      up : (j : ℕ) → j < v.count s → class_falls v s j ≡ false
      up zero h = refl
      up (suc j) h = lt-leb (v.entry_class s (suc j)) (v.entry_class s j) (A.rises s j hs h)

  -- And back.
  pub view_clear : (class_of : ℕ → ℕ) (m depth worst : ℕ) → Stated v class_of m depth worst → Clear (view_grounds v class_of m depth worst)
  unfolding view_grounds
  view_clear class_of m depth worst N = (
    or_neither (any v.states (record_bad_of v)) _ (any_none v.states (record_bad_of v) record_right) (same_differ _ m N.total),
    (
      any_neither v.states v.count (entry_class_bad v) entry_right,
      (
        any_neither v.states v.count (λ s j. leb v.states (v.entry_next s j)) (λ s j hs hj. lt-leb v.states (v.entry_next s j) (A.next_below s j hs hj)),
        (
          any_none v.states (endless v) (λ s hs. let (l, e) = A.ends s hs in ap (λ (o : Option ℕ). not (given o)) e),
          (
            any_neither v.states v.count (same_as_default v) A.needed,
            (or_neither (differ depth (depth_of v)) _ (same_differ depth (depth_of v) N.deep) (same_differ worst (worst_hops v class_of) N.far), refl),
          ),
        ),
      ),
    ),
  )
