-- An image with a patch applied reads as the view of both whether that view is sound or not; so where the applied image is accepted, it is.
use mathlib.Core.Path.{◌≡◌, refl}
use mathlib.Core.Bool.{Bool, true, false, not}
use mathlib.Core.List.{List}
use mathlib.Core.Option.{Option, none, some}
use Prim.Native.Nat.{ℕ, zero, suc, ◌+◌, ◌*◌, ◌≤◌, ◌<◌}
use native.Mathlib.Omega.{arith}
use lib.Dec.{eqb}
use borrow.Author.Tests.{eqb-false}
use Rattle.paper.specs.Below.{or, when}
use Rattle.paper.specs.Words.{number16, Bytes}
use Rattle.paper.specs.View.{View, Found, here, further, served, chain, stored, look_up_of, depth_of, worst_hops}
use Rattle.paper.specs.Image as image
use Rattle.paper.specs.Image.{default_from_of, image_view}
use Rattle.paper.specs.Patch as patch
use Rattle.paper.specs.Patch.{listed_at, from_either, patched_view, applied}
use Rattle.paper.proofs.Below.{largest_least}
use Rattle.paper.proofs.Sums.{sum_bound}
use Rattle.paper.proofs.Words.{number16_below}
use Rattle.paper.proofs.Tests.{none≢some}
use Rattle.paper.proofs.Chain.{chain_short, some_same}
use Rattle.paper.proofs.Look.{worst_least}
use Rattle.paper.proofs.Labels.{labels_small}
use Rattle.facts.proofs.ViewFacts.{Sound}
use Rattle.facts.proofs.ImageFacts.{AcceptedImage}
use Rattle.trips.proofs.Agree.{agree-back, sound_same}
use Rattle.trips.proofs.ImageReads.{ImageReads}
use Rattle.trips.proofs.ImageWritten.{Holds, held_reads}

module _ (v : View) where
  -- A depth is not above the number of states.
  depth_few : depth_of v ≤ v.states
  unfolding depth_of
  depth_few = largest_least v.states v.states (λ s. or (chain v v.states s) 0) (λ s h. short s (chain v v.states s) refl)
    where
      short : (s : ℕ) (o : Option ℕ) → chain v v.states s ≡ o → or o 0 ≤ v.states
      short s none e = omega arith
      short s (some l) e = omega (arith, chain_short v v.states s l e)

  -- A look-up through fewer than so many states takes fewer hops.
  hops_few : (left s c : ℕ) → (or (look_up_of v left s c) (here 0 0)).hops ≤ left
  hops_few zero s c = omega arith
  hops_few (suc left) s c = go (stored v s c) (v.default s) (λ d. hops_few left d c)
    where
      deeper : (o : Option Found) → (or o (here 0 0)).hops ≤ left → (or (further o) (here 0 0)).hops ≤ suc left
      deeper none h = omega arith
      deeper (some r) h = omega arith

      go : (o p : Option ℕ) → ((d : ℕ) → (or (look_up_of v left d c) (here 0 0)).hops ≤ left) → (or (served s o p (λ d. look_up_of v left d c)) (here 0 0)).hops ≤ suc left
      go (some t) p few = omega arith
      go none none few = omega arith
      go none (some d) few = deeper (look_up_of v left d c) (few d)

  -- So is a worst.
  worst_few : (class_of : ℕ → ℕ) → worst_hops v class_of ≤ v.states
  worst_few class_of = worst_least v class_of v.states (λ s x hs hx. hops_few v.states s (class_of x))

-- A default that stands in 16 bits is below 65535.
default_below : (n d : ℕ) → n < 65536 → default_from_of n ≡ some d → d < 65535
default_below n d h e = go (eqb n 65535) refl e
  where
    go : (o : Bool) → eqb n 65535 ≡ o → when (not o) n ≡ some d → d < 65535
    go true q w = absurd (none≢some none d refl w)
    go false q w = omega (arith, eqb-false n 65535 q, some_same w)

module _ (b x : List ℕ) (B : Bytes b) (X : Bytes x) (A : AcceptedImage b) where
  -- The view of both.
  abbrev v : View
  v = patched_view b x

  -- Its counts have 16 bits.
  count_fits : (s : ℕ) (o : Option ℕ) → from_either o (patch.count x) (image.count b s) < 65536
  unfolding image.count patch.count
  count_fits s none = number16_below b (image.records_at_of b + 4 * s + 2) B
  count_fits s (some i) = number16_below x (patch.records_at_of x + 4 * i + 2) X

  default_fits : (s d : ℕ) (o : Option ℕ) → from_either o (patch.default x) (image.default b s) ≡ some d → d < 65535
  unfolding image.default patch.default
  default_fits s d none e = default_below (number16 b (image.records_at_of b + 4 * s)) d (number16_below b (image.records_at_of b + 4 * s) B) e
  default_fits s d (some i) e = default_below (number16 x (patch.records_at_of x + 4 * i)) d (number16_below x (patch.records_at_of x + 4 * i) X) e

  class_fits : (s j : ℕ) (o : Option ℕ) → from_either o (λ i. number16 x (patch.entry_at x i j)) (number16 b (image.entry_at b s j)) < 65536
  class_fits s j none = number16_below b (image.entry_at b s j) B
  class_fits s j (some i) = number16_below x (patch.entry_at x i j) X

  next_fits : (s j : ℕ) (o : Option ℕ) → from_either o (λ i. number16 x (patch.entry_at x i j + 2)) (number16 b (image.entry_at b s j + 2)) < 65536
  next_fits s j none = number16_below b (image.entry_at b s j + 2) B
  next_fits s j (some i) = number16_below x (patch.entry_at x i j + 2) X

  -- All its numbers have room in an image.
  holds : Holds (image.edition b) v (image.start b) (image.class_of b) (image.labels b)
  unfolding image.labels
  holds =
      record {
        few_states = A.few_states;
        few_classes = omega (arith, A.few_classes);
        begins = omega (arith, A.begins, A.few_states);
        all_labelled = A.all_labelled;
        all_small = λ s hs. labels_small b 268 (image.states b) (image.edition b) B s;
        total_few = omega (arith, sum_bound (image.states b) 65536 v.count (λ s hs. omega (arith, count_fits s (listed_at x s))), A.few_states);
        default_fits = λ s d hs q. default_fits s d (listed_at x s) q;
        count_fits = λ s hs. count_fits s (listed_at x s);
        class_fits = λ s j hs hj. class_fits s j (listed_at x s);
        next_fits = λ s j hs hj. next_fits s j (listed_at x s);
        deep = omega (arith, depth_few v, A.few_states);
        far = omega (arith, worst_few v (image.class_of b), A.few_states);
      }

  -- The applied image reads as the view.
  applied_held : ImageReads (image.edition b) v (image.start b) (image.class_of b) (image.labels b) (applied b x)
  unfolding applied
  applied_held = held_reads (image.edition b) v (image.start b) (image.class_of b) (image.labels b) holds

  -- Where it is accepted the view is sound.
  pub accepted_sound : AcceptedImage (applied b x) → Sound v
  accepted_sound C = sound_same (image_view (applied b x)) v (agree-back v (image_view (applied b x)) applied_held.view_is) C.right
