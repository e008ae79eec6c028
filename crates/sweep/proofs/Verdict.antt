-- The answers to the last three grounds of a view, for the stated m, depth and worst.
use mathlib.Core.Path.{◌≡◌, sym, ◌∙◌}
use mathlib.Core.Bool.{Bool, true, false, cond, or-true}
use native.Mathlib.Omega.{arith}
use Rattle.answers.specs.Numbers.{number_of}
use Rattle.answers.specs.declared.Refusal.{Refusal}
use Rattle.answers.proofs.Told.{told_applies, told_number, told_passed}
use mathlib.Core.List.{List}
use Prim.Native.Nat.{ℕ}
use lib.ListN.{drop}
use borrow.Author.Tests.{ne_eqb}
use Rattle.paper.specs.Below.{any}
use Rattle.paper.specs.Refusals.{first}
use Rattle.paper.specs.View.{View, endless, depth_of, worst_hops, any_entry, same_as_default, view_grounds}
use Rattle.paper.proofs.Tests.{same_differ}
use Rattle.paper.proofs.Chain.{Inside}
use Rattle.chains.specs.Orders.{defaults_view}
use Rattle.chains.specs.Sweeps.{Falls}
use Rattle.chains.proofs.Agrees.{inside_range, endless-agrees, depth-agrees}

module _ {v : View} (inside : Inside v) {n : ℕ} {def : List ℕ} (F : Falls v n def) where
  -- The view has a chain without end just where the defaults that are kept have one.
  pub endless_is : (e : Bool) → e ≡ any n (endless (defaults_view n def)) → any v.states (endless v) ≡ e
  endless_is e q = endless-agrees F (inside_range F inside) ∙ sym q

  -- Its depth is theirs.
  pub depth_is : (d : ℕ) → d ≡ depth_of (defaults_view n def) → depth_of v ≡ d
  depth_is d q = depth-agrees F (inside_range F inside) ∙ sym q

module _ (v : View) (class_of : ℕ → ℕ) (m depth worst : ℕ) where
  -- The first of the grounds 11, 12 and 13 that applies.
  abbrev pub last_of : ℕ
  last_of = first (drop 3 (view_grounds v class_of m depth worst))

  -- Some chain of defaults has no end.
  pub eleven : any v.states (endless v) ≡ true → 11 ≡ last_of
  unfolding view_grounds
  eleven e = rw e

  module _ (ends : any v.states (endless v) ≡ false) where
    -- Some entry is equal to what its default's chain gives.
    pub twelve : any_entry v (same_as_default v) ≡ true → 12 ≡ last_of
    unfolding view_grounds
    twelve e = rw (ends, e)

    module _ (needed : any_entry v (same_as_default v) ≡ false) where
      -- The stated depth is another.
      pub other_depth : ¬ (depth ≡ depth_of v) → 13 ≡ last_of
      unfolding view_grounds
      other_depth e = rw (ends, needed, ne_eqb depth (depth_of v) e)

      -- The stated worst is another.
      pub other_worst : ¬ (worst ≡ worst_hops v class_of) → 13 ≡ last_of
      unfolding view_grounds
      other_worst e = rw (ends, needed, ne_eqb worst (worst_hops v class_of) e, or-true)

      -- Both are right.
      pub none_left : depth ≡ depth_of v → worst ≡ worst_hops v class_of → 0 ≡ last_of
      unfolding view_grounds
      none_left e q = rw (ends, needed, same_differ depth (depth_of v) e, same_differ worst (worst_hops v class_of) q)

  -- The refusal with the number of ground 11 alone.
  pub told_eleven : (e : Refusal) → number_of e ≡ cond (any v.states (endless v)) 11 0 → number_of e ≡ last_of
  told_eleven e h = told_number e _ 11 h ∙ eleven (told_applies e _ 11 h)

  module _ (ends : ◌≡◌ {A = ℕ} 0 (cond (any v.states (endless v)) 11 0)) where
    -- Ground 11 does not apply.
    passed_eleven : any v.states (endless v) ≡ false
    passed_eleven = told_passed _ 11 (λ e. absurd (omega arith)) ends

    -- The refusal with the number of ground 12 alone.
    pub told_twelve : (e : Refusal) → number_of e ≡ cond (any_entry v (same_as_default v)) 12 0 → number_of e ≡ last_of
    told_twelve e h = told_number e _ 12 h ∙ twelve passed_eleven (told_applies e _ 12 h)

    module _ (needed : ◌≡◌ {A = ℕ} 0 (cond (any_entry v (same_as_default v)) 12 0)) where
      -- Ground 12 does not apply.
      passed_twelve : any_entry v (same_as_default v) ≡ false
      passed_twelve = told_passed _ 12 (λ e. absurd (omega arith)) needed

      -- The stated depth is another than the one found.
      pub told_depth : (found : ℕ) → depth_of v ≡ found → (stated : ℕ) → stated ≡ depth → ¬ (stated ≡ found) → 13 ≡ last_of
      told_depth found f stated s n = other_depth passed_eleven passed_twelve (λ e. n (s ∙ e ∙ f))

      -- The stated worst is another than the one found.
      pub told_worst : (found : ℕ) → found ≡ worst_hops v class_of → (stated : ℕ) → stated ≡ worst → ¬ (stated ≡ found) → 13 ≡ last_of
      told_worst found f stated s n = other_worst passed_eleven passed_twelve (λ e. n (s ∙ e ∙ sym f))

      -- Both are right.
      pub told_none : (deep far : ℕ) → depth_of v ≡ deep → far ≡ worst_hops v class_of → (d w : ℕ) → d ≡ depth → w ≡ worst → d ≡ deep → w ≡ far → 0 ≡ last_of
      told_none deep far f g d w ed ew sd sw = none_left passed_eleven passed_twelve (sym ed ∙ sd ∙ sym f) (sym ew ∙ sw ∙ g)
