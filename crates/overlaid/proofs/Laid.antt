-- What is known of an image with a patch laid over it: the image has passed its first grounds, and the view of both is as the sweep asks.
use mathlib.Core.Path.{sym}
use mathlib.Core.List.{List}
use Prim.Native.Nat.{ℕ, ◌≤◌, ◌<◌}
use native.Mathlib.Omega.{arith}
use lib.ListN.{length}
use Rattle.paper.specs.Image.{classes, class_of}
use Rattle.paper.specs.Patch.{state_at_of, count, patched_view}
use Rattle.paper.proofs.Sums.{sum_bound}
use Rattle.paper.proofs.Chain.{Inside}
use Rattle.facts.proofs.TableFacts.{Classed}
use Rattle.image.specs.Passed.{Passed}
use Rattle.image.proofs.Passed.{accepted_passed}
use Rattle.abreast.specs.Keeps.{Fits}
use Rattle.sweep.proofs.Sweeping.{entered_fits}
use Rattle.patch.specs.Overlay.{Overlay}

module _ {b x : List ℕ} {n k m p q : ℕ} (O : Overlay b x n k m p q) where
  -- The image has passed its first grounds.
  pub image_passed : Passed b n (classes b) m
  image_passed = rw (O.states_are, O.entries_are) (accepted_passed b O.accepted)

  -- It has at most 512 states.
  pub few_states : n ≤ 512
  few_states = omega (arith, O.states_are, O.accepted.few_states)

  -- The rows of the view are as the sweep asks.
  pub view_fits : Fits (patched_view b x) n
  view_fits = entered_fits O.entered (sym O.states_are) few_states O.accepted.few_classes

  -- Its defaults stay among its states.
  pub view_inside : Inside (patched_view b x)
  view_inside = O.entered.inside

  -- Each byte of the image has a class, and each class a byte.
  pub bytes_classed : Classed 256 (classes b) (class_of b)
  bytes_classed = O.accepted.all_classed

  -- A listed state has a place in a list of 512.
  pub listed-room : (i : ℕ) → i < p → state_at_of x i < 512
  listed-room i h = omega (arith, O.listed.below i h, few_states)

  -- The patch is short.
  pub short : length x < 600000
  short =
      let C = O.counts in
      omega (arith, C.shaped.long, C.shaped.few, C.counted, sum_bound p 256 (count x) C.none_above)
