-- What an accepted image hands to the functions that read its defaults and order its states.
use mathlib.Core.Path.{◌≡◌, sym, ap, ◌∙◌}
use mathlib.Core.Bool.{Bool, false, not}
use mathlib.Core.List.{List}
use mathlib.Core.Option.{Option}
use Prim.Native.Nat.{ℕ}
use Rattle.paper.specs.Below.{any, given}
use Rattle.paper.specs.View.{endless}
use Rattle.paper.specs.Image.{states, classes, entries, image_view}
use Rattle.paper.proofs.Below.{any_none}
use Rattle.facts.proofs.ImageFacts.{AcceptedImage}
use Rattle.image.specs.Passed.{Passed}
use Rattle.image.proofs.Passed.{accepted_passed}
use Rattle.chains.specs.Orders.{InRange, defaults_view}
use Rattle.chains.specs.Sweeps.{Falls}
use Rattle.chains.proofs.Agrees.{inside_range, endless-agrees}

module _ (b : List ℕ) (A : AcceptedImage b) where
  -- It has passed the first ten grounds, with its counts under any names.
  pub passed_as : (n m : ℕ) → n ≡ states b → m ≡ entries b → Passed b n (classes b) m
  passed_as n m e q = rw (e, q) (accepted_passed b A)

  -- None of its chains is endless.
  none_endless : any (states b) (endless (image_view b)) ≡ false
  none_endless = any_none (states b) (endless (image_view b)) (λ s h. let (l, e) = A.right.ends s h in ap (λ (o : Option ℕ). not (given o)) e)

  module _ {n : ℕ} {def : List ℕ} (F : Falls (image_view b) n def) where
    -- The defaults that are kept are in range.
    pub kept_range : InRange n def
    kept_range = inside_range F A.right.inside

    -- No chain of them is endless.
    pub kept-ends : (e : Bool) → e ≡ any n (endless (defaults_view n def)) → e ≡ false
    kept-ends e q = q ∙ sym (endless-agrees F kept_range) ∙ none_endless
