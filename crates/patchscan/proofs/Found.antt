-- What a look-up in an image with a patch that it takes finds.
use mathlib.Core.Path.{◌≡◌, refl}
use mathlib.Core.List.{List}
use mathlib.Core.Option.{Option, none, some}
use Prim.Native.Nat.{ℕ, ◌≤◌, ◌<◌}
use native.Mathlib.Omega.{arith}
use Rattle.paper.specs.View.{View, look, stored}
use Rattle.paper.specs.Image.{states, class_of}
use Rattle.paper.specs.Patch.{patched_view}
use Rattle.facts.proofs.ViewFacts.{Sound}
use Rattle.facts.proofs.PatchFacts.{AcceptedPatch}
use Rattle.facts.proofs.Finds.{look_within}
use Rattle.image.specs.Forms.{step_of}
use Rattle.image.specs.Forms.{Step}
use Rattle.std.specs.Prelude.{None, Some}
use Rattle.image.proofs.Way.{Way, Onward, way_sent}
use Rattle.running.specs.Rules.{Reached}

-- A byte leads from a state of them to one, in few hops.
pub byte_reached : {b x : List ℕ} → AcceptedPatch b x → (s y : ℕ) → s < states b → y < 256
    → Reached (states b) (look (patched_view b x) s (class_of b y)).target (look (patched_view b x) s (class_of b y)).hops
byte_reached {b} {x} A s y hs hy =
    let (inside, few) = look_within (patched_view b x) A.right s (class_of b y) hs (A.accepted.all_classed.below y hy) in
    record { inside = inside; few = omega (arith, few, A.accepted.few_states) }

-- Where a step answers nothing the look-up goes on at a number that is the default's if there is one.
pub way_falls : (v : View) → Sound v → v.states ≤ 512 → (state class : ℕ) → state < v.states → class < v.classes → (s hops : ℕ) → Way v state class s hops
    → (step : Step) → step ≡ step_of (stored v s class) → step ≡ None → (u : ℕ) → ((d : ℕ) → v.default s ≡ some d → u ≡ d) → Onward v state class s hops u
way_falls v A few state class hs hc s hops W step step_is q u falls = go (v.default s) refl
  where
    go : (o : Option ℕ) → v.default s ≡ o → Onward v state class s hops u
    go none e = way_sent v A few state class hs hc s hops W step step_is q None e u u refl
    go (some d) e = rw (falls d e) (way_sent v A few state class hs hc s hops W step step_is q (Some d) e d 0 refl)
