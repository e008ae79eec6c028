-- An image that has passed the first ten grounds, in the words of the sweep: its view, the bytes of its states, and its last three grounds.
use mathlib.Core.Path.{◌≡◌, refl, sym, subst, ◌∙◌}
use mathlib.Core.List.{List}
use Prim.Native.Nat.{ℕ}
use native.Mathlib.Omega.{arith}
use lib.ListN.{drop}
use Rattle.paper.specs.View.{view_grounds}
use Rattle.paper.specs.Image.{entries, depth, worst, classes, class_of, image_view, image_grounds}
use Rattle.facts.proofs.TableFacts.{Classed}
use Rattle.facts.proofs.EntryFacts.{Entered}
use Rattle.image.specs.Grounds.{later_grounds}
use Rattle.image.specs.Passed.{Passed}
use Rattle.abreast.specs.Keeps.{Fits}
use Rattle.sweep.proofs.Sweeping.{entered_fits}

module _ {b : List ℕ} {n k m : ℕ} (P : Passed b n k m) where
  -- The grounds 8, 9 and 10 do not apply to its view.
  pub passed_entered : Entered (image_view b) m
  passed_entered =
      record {
        total = P.laid.counted ∙ sym P.entries_are;
        inside = P.inside;
        full = λ s hs e. P.full s (omega (arith, P.states_are)) e ∙ P.classes_are;
        few = λ s hs. omega (arith, P.few s (omega (arith, P.states_are)), P.classes_are);
        class_below = λ s j hs h. omega (arith, P.class_below s j (omega (arith, P.states_are)) h, P.classes_are);
        rises = λ s j hs h. P.rises s j (omega (arith, P.states_are)) h;
        next_below = λ s j hs h. omega (arith, P.next_below s j (omega (arith, P.states_are)) h, P.states_are);
      }

  -- Its rows are as the sweep asks.
  pub fits : Fits (image_view b) n
  fits = entered_fits passed_entered (sym P.states_are) P.few_states (omega (arith, P.classes_are, P.few_classes))

  -- Its bytes are classed.
  pub bytes_classed : Classed 256 (classes b) (class_of b)
  bytes_classed = subst (λ (x : ℕ). Classed 256 x (class_of b)) P.classes_are P.all_classed

-- The grounds 11, 12 and 13 of an image are those of its view.
pub later_last : (b : List ℕ) → drop 3 (view_grounds (image_view b) (class_of b) (entries b) (depth b) (worst b)) ≡ later_grounds b
unfolding later_grounds image_grounds view_grounds
later_last b = refl
