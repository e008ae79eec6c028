-- Given the defaults and where the states go, the stored entries of a sound view are determined: each state stores just the classes for
-- which it goes elsewhere than its default.
use mathlib.Core.Path.{◌≡◌, refl, sym, ap, ap₂, fun_ext, ◌∙◌}
use mathlib.Core.Bool.{Bool, true, false, not}
use mathlib.Core.Option.{Option, none, some}
use Prim.Native.Nat.{ℕ, ◌<◌}
use native.Mathlib.Decide.{dec_lt}
use native.Mathlib.Omega.{arith}
use borrow.Author.Tests.{eqb-false, eq-eqb, ne_eqb}
use Rattle.paper.specs.Below.{how_many_of, differ, given}
use Rattle.paper.specs.View.{View, stored, find, gives}
use Rattle.paper.proofs.Below.{bool_false}
use Rattle.paper.proofs.Tests.{none≢some}
use Rattle.paper.proofs.Rising.{same_row}
use Rattle.facts.proofs.Finds.{count-has, root_stores, found}
use Rattle.facts.proofs.ViewFacts.{Sound}
use Rattle.trips.proofs.Agree.{Agree}
use Rattle.paper.proofs.Entries.{has, has_some, stored_entry, entries-row}
use Rattle.trips.proofs.Stored.{target_of, goes, goes_own, goes_on, entry_goes}

-- By the next states a state needs to store a class: it has no default, or goes elsewhere than its default.
abbrev pub needs : (ℕ → ℕ → ℕ) → ℕ → ℕ → Option ℕ → Bool
needs next s c none = true
needs next s c (some d) = differ (next s c) (next d c)

module _ (v : View) (A : Sound v) where
  -- What is stored is not what the default gives.
  stored-differs : (s c d x : ℕ) → s < v.states → c < v.classes → stored v s c ≡ some x → v.default s ≡ some d → ¬ (goes v d c ≡ x)
  stored-differs s c d x hs hc q f w =
      let (j, hj, ec, en) = stored_entry v s c x q in
      let (r, e) = found v A d c (A.inside s d hs f) hc in
      let u : gives (find v d c) x ≡ false = rw (f, ec, en) at (A.needed s j hs hj) in
      eqb-false r.target x (rw e at u) (sym (ap target_of e) ∙ w)

  -- A state stores just what it needs.
  pub stores_needed : (s c : ℕ) → s < v.states → c < v.classes → has v s c ≡ needs (goes v) s c (v.default s)
  stores_needed s c hs hc = go (stored v s c) refl (v.default s) refl
    where
      go : (o : Option ℕ) → stored v s c ≡ o → (f : Option ℕ) → v.default s ≡ f → given o ≡ needs (goes v) s c f
      go none q none f = let (x, w) = root_stores v A s c hs hc f in absurd (none≢some (stored v s c) x q w)
      go none q (some d) f = sym (ap not (eq-eqb (goes v s c) (goes v d c) (goes_on v A s c d hs hc q f)))
      go (some x) q none f = refl
      go (some x) q (some d) f =
          sym (ap not (ne_eqb (goes v s c) (goes v d c) (λ e. stored-differs s c d x hs hc q f (sym e ∙ goes_own v A s c x hs q))))

  -- It stores no class from k on.
  stores_none : (s c : ℕ) → s < v.states → ¬ (c < v.classes) → has v s c ≡ false
  stores_none s c hs hc =
      bool_false (has v s c) (λ e. let (x, q) = has_some v s c e in let (j, hj, w, _) = stored_entry v s c x q in hc (rw w at (A.class_below s j hs hj)))

-- Two sound views of as many states and classes, with the same defaults, whose states go to the same states.
module _ (v w : View) (A : Sound v) (B : Sound w) (N : v.states ≡ w.states) (K : v.classes ≡ w.classes)
    (same : (s : ℕ) → s < v.states → v.default s ≡ w.default s)
    (alike : (s c : ℕ) → s < v.states → c < v.classes → goes v s c ≡ goes w s c) where
  needs_same : (s c : ℕ) → s < v.states → c < v.classes → needs (goes v) s c (v.default s) ≡ needs (goes w) s c (w.default s)
  needs_same s c hs hc = go (v.default s) refl ∙ ap (needs (goes w) s c) (same s hs)
    where
      go : (o : Option ℕ) → v.default s ≡ o → needs (goes v) s c o ≡ needs (goes w) s c o
      go none q = refl
      go (some d) q = ap₂ differ (alike s c hs hc) (alike d c (A.inside s d hs q) hc)

  has_same : (s : ℕ) → s < v.states → has v s ≡ has w s
  has_same s hs = fun_ext (λ c. go c (dec_lt c v.classes))
    where
      hs' : s < w.states
      hs' = omega arith

      go : (c : ℕ) → Dec (c < v.classes) → has v s c ≡ has w s c
      go c (yes hc) = stores_needed v A s c hs hc ∙ needs_same s c hs hc ∙ sym (stores_needed w B s c hs' (omega arith))
      go c (no hc) = stores_none v A s c hs hc ∙ sym (stores_none w B s c hs' (λ h. hc (omega arith)))

  class_same : (s j : ℕ) → s < v.states → j < v.count s → v.entry_class s j ≡ w.entry_class s j
  class_same s j hs hj =
      same_row (v.entry_class s) (w.entry_class s) (v.count s) (w.count s) (has w s)
      (rw (← has_same s hs) (entries-row v s (λ j. A.rises s j hs))) (entries-row w s (λ j. B.rises s j (omega arith))) j hj

  count_same : (s : ℕ) → s < v.states → v.count s ≡ w.count s
  count_same s hs = sym (count-has v A s hs) ∙ ap₂ how_many_of K (has_same s hs) ∙ count-has w B s (omega arith)

  -- They agree.
  pub one_view : Agree v w
  one_view =
      record {
        states_same = N;
        classes_same = K;
        default_same = same;
        count_same = count_same;
        class_same = class_same;
        next_same = λ s j hs hj.
            sym (entry_goes v A s j hs hj) ∙ alike s (v.entry_class s j) hs (A.class_below s j hs hj) ∙ ap (goes w s) (class_same s j hs hj)
            ∙ entry_goes w B s j (omega arith) (omega (arith, count_same s hs));
      }
