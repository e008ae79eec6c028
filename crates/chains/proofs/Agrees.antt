-- A view with the defaults of a list has the chains of that list: their lengths, whether one has no end, and the depth.
use mathlib.Core.Path.{◌≡◌, refl, ap, ◌∙◌}
use mathlib.Core.Bool.{not}
use mathlib.Core.Option.{Option, none, some}
use mathlib.Core.List.{List}
use Prim.Native.Nat.{ℕ, zero, suc, ◌<◌}
use native.Mathlib.Omega.{arith}
use lib.ListN.{get_or}
use Rattle.paper.specs.Below.{any, largest, or, given}
use Rattle.paper.specs.Image.{default_from_of}
use Rattle.paper.specs.View.{View, stored, chain, chained, longer, endless, depth_of}
use Rattle.paper.proofs.Below.{any_same, largest_same}
use Rattle.paper.proofs.Tests.{none≢some}
use Rattle.paper.proofs.Chain.{Inside}
use Rattle.chains.specs.Orders.{defaults_view, InRange}
use Rattle.chains.specs.Sweeps.{Falls, Stores, RootsStore}
use Rattle.chains.proofs.Defaults.{from_none, from_some, range_inside}

module _ {v : View} {n : ℕ} {def : List ℕ} (F : Falls v n def) where
  -- Where the defaults of the view stay among its states, those of the list are in range.
  pub inside_range : Inside v → InRange n def
  inside_range inside s h e = omega (arith, inside s (get_or def s 0) (omega (arith, F.counted)) (F.falls s h ∙ from_some (get_or def s 0) e), F.counted)

  -- Where each state of the view without a default stores the class, so does the list.
  pub roots_store : (c : ℕ) (own : List ℕ) → Stores v c n own → ((s : ℕ) → s < n → v.default s ≡ none → (t : ℕ) × (stored v s c ≡ some t)) → RootsStore n def own
  roots_store c own S roots s h e q =
      let (t, w) = roots s h (F.falls s h ∙ from_none (get_or def s 0) e) in
      none≢some (stored v s c) t (S s h ∙ from_none (get_or own s 0) q) w

module _ {v : View} {n : ℕ} {def : List ℕ} (F : Falls v n def) (range : InRange n def) where
  -- The same chains.
  pub chain-agrees : (f s : ℕ) → s < n → chain v f s ≡ chain (defaults_view n def) f s
  chain-agrees zero s h = refl
  chain-agrees (suc f) s h = rw (F.falls s h) (go (default_from_of (get_or def s 0)) refl (chain-agrees f))
    where
      go : (o : Option ℕ) → default_from_of (get_or def s 0) ≡ o → ((d : ℕ) → d < n → chain v f d ≡ chain (defaults_view n def) f d)
          → chained o (λ d. chain v f d) ≡ chained o (λ d. chain (defaults_view n def) f d)
      go none q ih = refl
      go (some d) q ih = ap longer (ih d (range_inside n def range s d h q))

  -- As long as there are states.
  pub chain-agrees_all : (s : ℕ) → s < n → chain v v.states s ≡ chain (defaults_view n def) n s
  chain-agrees_all s h = ap (λ (f : ℕ). chain v f s) F.counted ∙ chain-agrees n s h

  -- The same answer to whether some chain has no end.
  pub endless-agrees : any v.states (endless v) ≡ any n (endless (defaults_view n def))
  endless-agrees =
      ap (λ (m : ℕ). any m (endless v)) F.counted
      ∙ any_same n (endless v) (endless (defaults_view n def)) (λ s h. ap (λ (o : Option ℕ). not (given o)) (chain-agrees_all s h))

  -- The same depth.
  pub depth-agrees : depth_of v ≡ depth_of (defaults_view n def)
  unfolding depth_of
  depth-agrees =
      ap (λ (m : ℕ). largest m (λ s. or (chain v v.states s) 0)) F.counted
      ∙ largest_same n (λ s. or (chain v v.states s) 0) (λ s. or (chain (defaults_view n def) n s) 0) (λ s h. ap (λ (o : Option ℕ). or o 0) (chain-agrees_all s h))
