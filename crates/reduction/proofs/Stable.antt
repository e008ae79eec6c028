-- After n rounds the blocks are stable: one round more parts nothing.
use mathlib.Core.Path.{◌≡◌, sym, ◌∙◌, subst}
use mathlib.Core.Bool.{Bool, true}
use mathlib.Core.List.{List, [], ◌∷◌}
use mathlib.Core.Option.{Option}
use Prim.Native.Nat.{ℕ, zero, suc, ◌≤◌, ◌<◌}
use native.Mathlib.Decide.{ℕ_discrete}
use native.Mathlib.Omega.{arith}
use lib.Dec.{eqb}
use borrow.Author.Tests.{eq-eqb, eqb-true}
use Rattle.paper.specs.Table.{states, classes, labels, next}
use Rattle.paper.specs.Reduce.{reached, blocks, stays}
use Rattle.paper.proofs.Below.{and_true}
use Rattle.reduction.proofs.Settles.{Within, settles}
use Rattle.paper.specs.Walk.{state_after}
use Rattle.reduction.proofs.Words.{Word}
use Rattle.reduction.proofs.Blocks.{Closed, block_at, joins, joins_equivalence, join, block_least, joins_block, block_before, block_next, block_alike}
use Rattle.reduction.proofs.Alike.{alike-labels}

module _ (t : List ℕ) (level : List (Option ℕ)) (C : Closed t level) where
  -- The name of a block is reached, and joined with the state.
  named : (i x : ℕ) → reached t level x ≡ true → (reached t level (block_at t level i x) ≡ true) × (joins t level i x (block_at t level i x) ≡ true)
  named i x e = and_true (reached t level (block_at t level i x)) (joins t level i x (block_at t level i x)) (block_least t level C i x e).passes

  -- The name of a block is reached.
  pub name_reached : (i x : ℕ) → reached t level x ≡ true → reached t level (block_at t level i x) ≡ true
  name_reached i x e = (named i x e).0

  -- It is in the block that it names.
  pub name_named : (i x : ℕ) → reached t level x ≡ true → block_at t level i (block_at t level i x) ≡ block_at t level i x
  name_named i x e = let (r, q) = named i x e in sym (joins_block t level C i x (block_at t level i x) e r q)

  -- It is not above any state of the block.
  pub name_le : (i x : ℕ) → reached t level x ≡ true → block_at t level i x ≤ x
  name_le i x e =
      (block_least t level C i x e).least x (C.below x e)
      (let s : joins t level i x x ≡ true = (joins_equivalence t level i).self x in rw (e, s))

  -- A state that stays after a round.
  abbrev stays_at : ℕ → ℕ → Bool
  stays_at i x = stays t level (blocks t level i) x

  -- It is reached, and names its block.
  pub stays_facts : (i x : ℕ) → stays t level (blocks t level i) x ≡ true → (reached t level x ≡ true) × (block_at t level i x ≡ x)
  stays_facts i x e = let (p, q) = and_true (reached t level x) (eqb (block_at t level i x) x) e in (p, eqb-true (block_at t level i x) x q)

  -- And the other way.
  pub facts_stays : (i x : ℕ) → reached t level x ≡ true → block_at t level i x ≡ x → stays t level (blocks t level i) x ≡ true
  facts_stays i x e q = let s : eqb (block_at t level i x) x ≡ true = eq-eqb (block_at t level i x) x q in rw (e, s)

  -- The name of a block stays.
  pub name_stays : (i x : ℕ) → reached t level x ≡ true → stays t level (blocks t level i) (block_at t level i x) ≡ true
  name_stays i x e = facts_stays i (block_at t level i x) (name_reached i x e) (name_named i x e)

  -- What stays after a round stays after the next.
  stays_up : (i : ℕ) → Within (states t) (stays_at i) (stays_at (suc i))
  stays_up i x h e =
      let (r, q) = stays_facts i x e in
      let b = block_at t level (suc i) x in
      let rb = name_reached (suc i) x r in
      let z : block_at t level i b ≡ block_at t level i x = block_before t level C i b x rb r (name_named (suc i) x r) in
      facts_stays (suc i) x r (omega (arith, name_le (suc i) x r, name_le i b rb, z, q))

  -- The round after round i parts nothing.
  abbrev pub Still : ℕ → Type 0
  Still i = (x y : ℕ) → reached t level x ≡ true → reached t level y ≡ true → block_at t level i x ≡ block_at t level i y → block_at t level (suc i) x ≡ block_at t level (suc i) y

  -- So it is where no more states stay.
  settled_still : (i : ℕ) → Within (states t) (stays_at (suc i)) (stays_at i) → Still i
  settled_still i w x y ex ey q = kept x ex ∙ q ∙ sym (kept y ey)
    where
      kept : (z : ℕ) → reached t level z ≡ true → block_at t level (suc i) z ≡ block_at t level i z
      kept z e =
          let b = block_at t level (suc i) z in
          let rb = name_reached (suc i) z e in
          let (_, s) = stays_facts i b (w b (C.below b rb) (name_stays (suc i) z e)) in
          sym s ∙ block_before t level C i b z rb e (name_named (suc i) z e)

  -- So it is in the next round too.
  pub still_next : (i : ℕ) → Still i → Still (suc i)
  still_next i s x y ex ey q =
      joins_block t level C (suc (suc i)) x y ex ey
      (join t level (suc i) x y q (λ c h. s (next t x c) (next t y c) (C.step x c h ex) (C.step y c h ey) (block_next t level C i x y c h ex ey q)))

  -- The round after n rounds parts nothing.
  pub still : (x y : ℕ) → reached t level x ≡ true → reached t level y ≡ true → block_at t level (states t) x ≡ block_at t level (states t) y
      → block_at t level (suc (states t)) x ≡ block_at t level (suc (states t)) y
  still = let (i, h, w) = settles (states t) stays_at stays_up in on i (states t) h (settled_still i w)
    where
      on : (i n : ℕ) → i ≤ n → Still i → Still n
      on zero zero h s = s
      on (suc i) zero h s = absurd (omega arith)
      on i (suc n) h s = more (ℕ_discrete i (suc n)) (on i n)
        where
          more : Dec (i ≡ suc n) → (i ≤ n → Still i → Still n) → Still (suc n)
          more (yes e) ih = subst Still e s
          more (no e) ih = still_next n (ih (omega arith) s)

  -- The block of a state after n rounds.
  abbrev pub block : ℕ → ℕ
  block = block_at t level (states t)

  -- States of one block go to one block on every class.
  pub block_closed : (x y c : ℕ) → c < classes t → reached t level x ≡ true → reached t level y ≡ true → block x ≡ block y → block (next t x c) ≡ block (next t y c)
  block_closed x y c h ex ey q = block_next t level C (states t) x y c h ex ey (still x y ex ey q)

  -- They have equal labels.
  pub block_labels : (x y : ℕ) → reached t level x ≡ true → reached t level y ≡ true → block x ≡ block y → labels t x ≡ labels t y
  block_labels x y ex ey q = alike-labels (classes t) (next t) (labels t) (states t) x y (block_alike t level C (states t) x y ex ey q)

  -- Every word leads to reached states.
  pub word_reached : (x : ℕ) (w : List ℕ) → Word (classes t) w → reached t level x ≡ true → reached t level (state_after (next t) x w) ≡ true
  word_reached x [] a e = e
  word_reached x (c ∷ w) (h, a) e = word_reached (next t x c) w a (C.step x c h e)

  -- So no word of any length tells states of one block apart.
  pub block_ends : (x y : ℕ) → reached t level x ≡ true → reached t level y ≡ true → block x ≡ block y
      → (w : List ℕ) → Word (classes t) w → labels t (state_after (next t) x w) ≡ labels t (state_after (next t) y w)
  block_ends x y ex ey q [] a = block_labels x y ex ey q
  block_ends x y ex ey q (c ∷ w) (h, a) = block_ends (next t x c) (next t y c) (C.step x c h ex) (C.step y c h ey) (block_closed x y c h ex ey q) w a
