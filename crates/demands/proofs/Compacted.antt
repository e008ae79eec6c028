-- What compact leaves: an accepted image with the defaults of its order; in the orders 0, 1 and 2 its chains are short, and its entries, defaults and weights make n times k; and what D does at its ends.
use mathlib.Core.Path.{◌≡◌, refl, sym, ap, ◌∙◌}
use mathlib.Core.List.{List, [], ◌∷◌, ◌++◌}
use mathlib.Core.Option.{Option, none}
use Prim.Native.Nat.{ℕ, ◌+◌, ◌*◌, ◌/◌, ◌≤◌, ◌<◌}
use native.Mathlib.Omega.{arith}
use lib.Dec.{ltb}
use lib.ListN.{length}
use Rattle.paper.specs.Below.{how_many_of, given}
use Rattle.paper.specs.Words.{Bytes}
use Rattle.paper.specs.Refusals.{first}
use Rattle.paper.specs.Table.{states, classes, table_grounds}
use Rattle.paper.specs.Image as image
use Rattle.paper.specs.Image.{image_view}
use Rattle.paper.specs.Results.{image_of}
use Rattle.paper.specs.Forest.{longest, weight, weights_of, forest, toward_root}
use Rattle.paper.specs.Defaults.{defaults}
use Rattle.paper.specs.Roots.{GoesBefore}
use Rattle.paper.specs.Sentences.{Ends}
use Rattle.paper.specs.Operations.{judge_image_of, Built, result, building, compacted, compact_grounds, compact}
use Rattle.paper.proofs.Chain.{chain-ends}
use Rattle.paper.proofs.Orders.{defaults_few, defaults_toward}
use Rattle.trees.proofs.Defaults.{defaults-chain, defaults-depth, tree_chains, tree_chain_met}
use Rattle.trees.proofs.RootChosen.{no_default-chosen}
use Rattle.trees.proofs.EntriesSum.{entries-sum}
use Rattle.trees.proofs.Fewest.{transitions}
use Rattle.trees.proofs.Bounds.{bound_zero, bound_free}
use Rattle.trips.proofs.ImageOf.{reads, image_of_accepted, defaults_of_image}
use Rattle.trips.proofs.ExpandsBack.{compact_leaves}
use Rattle.demands.proofs.Transitions.{image_transitions_of, image_transitions}

module _ (t : List ℕ) (order D : ℕ) (room : List ℕ) (B : Bytes t) (e : (compact t order D room).number ≡ 0) where
  -- The image that it leaves.
  abbrev left : List ℕ
  left = result (compact t order D room)

  -- It is accepted.
  pub compacted_accepted : judge_image_of left ≡ 0
  compacted_accepted =
      let (w, W) = compact_leaves t order D room e in
      ap judge_image_of w ∙ image_of_accepted t (defaults t order D) B W

  -- Its defaults are those of the order.
  pub compacted-defaults : (s : ℕ) → s < states t → image.default left s ≡ defaults t order D s
  compacted-defaults s h =
      let (w, W) = compact_leaves t order D room e in
      ap (λ (b : List ℕ). image.default b s) w ∙ defaults_of_image t (defaults t order D) B W s h

  module _ (few : order ≤ 2) where
    -- In the orders 0, 1 and 2 its defaults are the forest's.
    compacted-forest : (s : ℕ) → s < states t → image.default left s ≡ toward_root t order D s
    compacted-forest s h = compacted-defaults s h ∙ ap (λ (f : ℕ → Option ℕ). f s) (defaults_few t order D few)

    -- Of each tree the state without a default is the one that goes before all others as a root.
    pub compacted-root : (r y : ℕ) → r < states t → y < states t → image.default left r ≡ none → (forest t order D).tree r ≡ (forest t order D).tree y
        → GoesBefore (states t) (forest t order D) r y
    compacted-root r y rb yb q m = no_default-chosen t order D r y rb yb (sym (compacted-forest r rb) ∙ q) m

    -- Every chain of it ends after at most D halved and rounded up.
    pub compacted_chains : (s : ℕ) → s < states t → (l : ℕ) × Ends (image_view left) s l × (l ≤ (D + 1) / 2)
    compacted_chains s h =
        let (l, q, short) = defaults-chain t order D (image_view left) compacted-forest s h in
        (l, chain-ends (image_view left) (states t) s l q, short)

    -- In a tree no chain is longer than its longest path halved and rounded up.
    pub compacted_tree : (x y l : ℕ) → x < states t → y < states t → (forest t order D).tree x ≡ (forest t order D).tree y → Ends (image_view left) y l
        → l ≤ (longest (states t) (forest t order D) x + 1) / 2
    compacted_tree = tree_chains t order D (image_view left) compacted-forest

    -- One is so long.
    pub compacted_tree_met : (x : ℕ) → x < states t
        → (y : ℕ) × (y < states t) × ((forest t order D).tree x ≡ (forest t order D).tree y) × Ends (image_view left) y ((longest (states t) (forest t order D) x + 1) / 2)
    compacted_tree_met = tree_chain_met t order D (image_view left) compacted-forest

    -- So is the depth that it states.
    pub compacted-depth : image.depth left ≤ (D + 1) / 2
    compacted-depth =
        let (w, W) = compact_leaves t order D room e in
        rw (w, (reads t (defaults t order D) B W).depth_is, defaults_few t order D few) (defaults-depth t order D)

    -- Its m, the defaults in its records and the weights of the pairs added make n times k.
    pub compacted-entries : image.entries left + (how_many_of (image.states left) (λ s. given (image.default left s)) + weights_of (weight t) (forest t order D).added) ≡ states t * classes t
    compacted-entries =
        let (w, W) = compact_leaves t order D room e in
        let said : image_transitions_of left ≡ transitions t (toward_root t order D) = rw (w, image_transitions t (defaults t order D) B W) (ap (transitions t) (defaults_few t order D few)) in
        omega (arith, said, entries-sum t order D)

-- D 0 gives no defaults in the orders 0, 1 and 2.
pub compacted_zero : (t : List ℕ) (order : ℕ) (room : List ℕ) → Bytes t → (compact t order 0 room).number ≡ 0 → order ≤ 2
    → (s : ℕ) → s < states t → image.default (result (compact t order 0 room)) s ≡ none
compacted_zero t order room B e few s h = compacted-forest t order 0 room B e few s h ∙ bound_zero t order s

module _ (t : List ℕ) (order : ℕ) (room : List ℕ) where
  -- What compact answers and leaves, by the defaults that it chose.
  abbrev answers : (ℕ → Option ℕ) → Built
  answers default = building (first ((18, ltb 3 order) ∷ (table_grounds t ++ ((16, ltb (length room) (length (image_of t default))) ∷ [])))) (image_of t default) room

  compact_by : (D : ℕ) → compact t order D room ≡ answers (defaults t order D)
  unfolding compact compact_grounds compacted
  compact_by D = refl

  -- By the same defaults it answers and leaves the same.
  pub compact_same : (D D' : ℕ) → defaults t order D ≡ defaults t order D' → compact t order D room ≡ compact t order D' room
  compact_same D D' q = compact_by D ∙ ap answers q ∙ sym (compact_by D')

-- D at n - 1 or more binds nothing in the orders 0, 1 and 2: with all such bounds compact answers and leaves the same.
pub compacted_free : (t : List ℕ) (order : ℕ) (room : List ℕ) (D D' : ℕ) → order ≤ 2 → states t ≤ D + 1 → states t ≤ D' + 1 → compact t order D room ≡ compact t order D' room
compacted_free t order room D D' few h h' = compact_same t order room D D' (defaults_few t order D few ∙ bound_free t order D D' h h' ∙ sym (defaults_few t order D' few))

-- In order 3 D binds nothing at all.
pub compacted_ignores : (t room : List ℕ) (D D' : ℕ) → compact t 3 D room ≡ compact t 3 D' room
compacted_ignores t room D D' = compact_same t 3 room D D' (defaults_toward t 3 D refl ∙ sym (defaults_toward t 3 D' refl))
