-- In a sound view every look-up finds a next state, so that depth and worst are the longest chain and the largest hops; in an accepted image the stated ones are.
use mathlib.Core.Path.{◌≡◌, ap}
use mathlib.Core.List.{List}
use mathlib.Core.Option.{Option, none, some}
use Prim.Native.Nat.{ℕ, ◌<◌}
use native.Mathlib.Omega.{arith}
use Rattle.paper.specs.Below.{how_many_of, or}
use Rattle.paper.specs.View.{View, Found, here, stored, find, look}
use Rattle.paper.specs.Image.{states, depth, class_of, worst, image_view}
use Rattle.paper.specs.Sentences.{LongestChain, Serves, LargestHops}
use Rattle.paper.proofs.Chain.{steps_inside, chain_short}
use Rattle.paper.proofs.Look.{look-finds, look_serves, serves_within}
use Rattle.paper.proofs.Entries.{has, entries_counted, full_stores, stored_entry}
use Rattle.paper.proofs.Stated.{depth_is_longest, finds_serves, worst_is_largest}
use Rattle.facts.proofs.ViewFacts.{Sound}
use Rattle.facts.proofs.ImageFacts.{AcceptedImage}

module _ (v : View) (A : Sound v) where
  -- A state has as many entries as classes that it stores.
  pub count-has : (s : ℕ) → s < v.states → how_many_of v.classes (has v s) ≡ v.count s
  count-has s hs = entries_counted v s (λ j. A.rises s j hs) (λ j. A.class_below s j hs)

  -- A state without a default stores every class.
  pub root_stores : (s c : ℕ) → s < v.states → c < v.classes → v.default s ≡ none → (x : ℕ) × (stored v s c ≡ some x)
  root_stores s c hs hc q = full_stores v s (λ j. A.rises s j hs) (λ j. A.class_below s j hs) (A.full s hs q) c hc

  -- Every look-up finds a next state.
  pub found : (s c : ℕ) → s < v.states → c < v.classes → (r : Found) × (find v s c ≡ some r)
  found s c hs hc = let (l, e) = A.ends s hs in look-finds v c A.inside (λ r hr q. root_stores r c hr hc q) v.states s l hs e

  -- What it finds is a state, after fewer hops than there are states.
  pub look_within : (s c : ℕ) → s < v.states → c < v.classes → ((look v s c).target < v.states) × ((look v s c).hops < v.states)
  look_within s c hs hc =
      let (l, e) = A.ends s hs in
      let (r, q) = found s c hs hc in
      let S = look_serves v c v.states s r q in
      let (j, hj, _, w) = stored_entry v r.server c r.target S.stores in
      let server_in = steps_inside v A.inside r.hops s r.server hs S.reached in
      let seen : look v s c ≡ r = ap (λ (o : Option Found). or o (here 0 0)) q in
      rw seen
      (omega (arith, w, A.next_below r.server j server_in hj), omega (arith, serves_within v c v.states s l r.server r.hops r.target e S, chain_short v v.states s l e))

module _ (b : List ℕ) (A : AcceptedImage b) where
  -- Every byte of an accepted image is found from every state.
  byte_found : (s x : ℕ) → s < states b → x < 256 → (r : Found) × (find (image_view b) s (class_of b x) ≡ some r)
  byte_found s x hs hx = found (image_view b) A.right s (class_of b x) hs (A.all_classed.below x hx)

  -- What the look-up finds is what the chain gives.
  pub look-served : (s x : ℕ) → s < states b → x < 256
      → Serves (image_view b) s (class_of b x) (look (image_view b) s (class_of b x)).server (look (image_view b) s (class_of b x)).hops (look (image_view b) s (class_of b x)).target
  look-served = finds_serves (image_view b) (omega (arith, A.some_states)) A.right.ends (class_of b) byte_found

  -- The stated depth is that of the longest chain.
  pub stated_depth : LongestChain (image_view b) (depth b)
  stated_depth = rw A.stated.deep (depth_is_longest (image_view b) (omega (arith, A.some_states)) A.right.ends)

  -- The stated worst is that of the largest hops.
  pub stated_worst : LargestHops (image_view b) (class_of b) (worst b)
  stated_worst = rw A.stated.far (worst_is_largest (image_view b) (omega (arith, A.some_states)) A.right.ends (class_of b) byte_found)
