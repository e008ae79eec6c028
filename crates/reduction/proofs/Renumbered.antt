-- New numbers are ranks, inverse to the list of states that stay.
use mathlib.Core.Path.{◌≡◌, ap, ◌∙◌}
use mathlib.Core.Bool.{true}
use mathlib.Core.List.{List}
use mathlib.Core.Option.{Option}
use Prim.Native.Nat.{ℕ, ◌≤◌, ◌<◌}
use native.Mathlib.Omega.{arith}
use Rattle.paper.specs.Below.{how_many_of}
use Rattle.paper.specs.Table.{states, classes, labels, next}
use Rattle.paper.specs.Reduce.{reached}
use Rattle.paper.proofs.Counts.{count_le}
use Rattle.reduction.specs.Left.{kept, new, old, left, new_labels, new_next}
use Rattle.reduction.proofs.Ranks.{passing_long, rank_below, at_rank, Ranked, ranked}
use Rattle.reduction.proofs.Blocks.{Closed}
use Rattle.reduction.proofs.Stable.{block, block_closed, block_labels, name_reached, name_named, name_stays, stays_facts}

module _ (t : List ℕ) (level : List (Option ℕ)) where
  -- As many are left as stay.
  pub left_is : left t level ≡ how_many_of (states t) (kept t level)
  left_is = passing_long (kept t level) (states t)

  -- At most n are left.
  pub left_le : left t level ≤ states t
  left_le = omega (arith, left_is, count_le (states t) (kept t level))

  module _ (C : Closed t level) where
    -- A new number is below the number of states left.
    pub new_below : (x : ℕ) → reached t level x ≡ true → new t level x < left t level
    new_below x e =
        let b = block t level C x in
        omega (arith, left_is, rank_below (kept t level) (states t) b (C.below b (name_reached t level C (states t) x e)) (name_stays t level C (states t) x e))

    -- The old state of a state's new number is the smallest of its block.
    pub old-new : (x : ℕ) → reached t level x ≡ true → old t level (new t level x) ≡ block t level C x
    old-new x e =
        let b = block t level C x in
        at_rank (kept t level) (states t) b (C.below b (name_reached t level C (states t) x e)) (name_stays t level C (states t) x e)

    -- At each place of the list stands a state that stays, and as many as stay below it stand before it.
    pub old_ranked : (s : ℕ) → s < left t level → Ranked (kept t level) (states t) s (old t level s)
    old_ranked s h = ranked (kept t level) (states t) s (omega (arith, left_is))

    -- The old state of a new number is reached.
    pub old-reached : (s : ℕ) → s < left t level → reached t level (old t level s) ≡ true
    old-reached s h = (stays_facts t level C (states t) (old t level s) (old_ranked s h).passes).0

    -- It is the smallest of its block.
    pub old_block : (s : ℕ) → s < left t level → block t level C (old t level s) ≡ old t level s
    old_block s h = (stays_facts t level C (states t) (old t level s) (old_ranked s h).passes).1

    -- Its new number is that number.
    pub new-old : (s : ℕ) → s < left t level → new t level (old t level s) ≡ s
    new-old s h = ap (λ (b : ℕ). how_many_of b (kept t level)) (old_block s h) ∙ (old_ranked s h).rank

    -- States of one block have one new number.
    pub new_same : (x y : ℕ) → block t level C x ≡ block t level C y → new t level x ≡ new t level y
    new_same x y q = ap (λ (b : ℕ). how_many_of b (kept t level)) q

    -- The labels of a state's new number are its labels.
    pub new-labels : (x : ℕ) → reached t level x ≡ true → new_labels t level (new t level x) ≡ labels t x
    new-labels x e =
        ap (labels t) (old-new x e)
        ∙ block_labels t level C (block t level C x) x (name_reached t level C (states t) x e) e (name_named t level C (states t) x e)

    -- The next state of a state's new number is the new number of its next state.
    pub new-next : (x c : ℕ) → c < classes t → reached t level x ≡ true → new_next t level (new t level x) c ≡ new t level (next t x c)
    new-next x c h e =
        ap (λ (y : ℕ). new t level (next t y c)) (old-new x e)
        ∙ new_same (next t (block t level C x) c) (next t x c)
        (block_closed t level C (block t level C x) x c h (name_reached t level C (states t) x e) e (name_named t level C (states t) x e))

    -- Every row of the states left stays among them.
    pub next_below : (s c : ℕ) → s < left t level → c < classes t → new_next t level s c < left t level
    next_below s c h hc = new_below (next t (old t level s) c) (C.step (old t level s) c hc (old-reached s h))
