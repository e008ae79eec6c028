-- Blocks by rounds: two reached states are in one block after i rounds just where they are alike for i rounds, and the smallest names the block.
use mathlib.Core.Path.{◌≡◌, refl, sym, ap₂, ◌∙◌, subst}
use mathlib.Core.Bool.{Bool, true, ◌&&◌}
use mathlib.Core.List.{List}
use mathlib.Core.Option.{Option}
use Prim.Native.Nat.{ℕ, zero, suc, ◌<◌}
use lib.Dec.{eqb}
use lib.ListN.{get_or}
use borrow.Author.Tests.{eq-eqb, eqb-true}
use Rattle.paper.specs.Below.{every, same}
use Rattle.paper.specs.Table.{states, classes, labels, next}
use Rattle.paper.specs.Reduce.{reached, smallest, alike, blocks}
use Rattle.paper.proofs.Below.{and_true, every_all, every_at}
use Rattle.paper.proofs.Lists.{get_or-list}
use Rattle.reduction.proofs.Same.{same_true, eq_same}
use Rattle.reduction.proofs.Firsts.{Least}
use Rattle.reduction.proofs.Smallest.{Equivalence, names, smallest_is, smallest_same, smallest-alike}
use Rattle.reduction.proofs.Alike.{Alike}

-- The reached states are below n, and so with their next states.
pub record Closed (t : List ℕ) (level : List (Option ℕ)) : Type 0 where
  pub below : (x : ℕ) → reached t level x ≡ true → x < states t
  pub step : (x c : ℕ) → c < classes t → reached t level x ≡ true → reached t level (next t x c) ≡ true

module _ (t : List ℕ) (level : List (Option ℕ)) where
  -- The block of a state after so many rounds.
  abbrev pub block_at : ℕ → ℕ → ℕ
  block_at i x = get_or (blocks t level i) x 0

  -- The test by which round i joins states.
  abbrev pub joins : ℕ → ℕ → ℕ → Bool
  joins zero x y = same (labels t x) (labels t y)
  joins (suc i) x y = alike t level (blocks t level i) x y

  -- Each block is named by the smallest that is joined.
  pub block_is : (i x : ℕ) → x < states t → block_at i x ≡ smallest t level (joins i x) x
  block_is zero x h = get_or-list (states t) x (λ x. smallest t level (joins 0 x) x) 0 h
  block_is (suc i) x h = get_or-list (states t) x (λ x. smallest t level (joins (suc i) x) x) 0 h

  -- What a round after the first joins: one block before, and one block on each class.
  joined : (i x y : ℕ) → joins (suc i) x y ≡ true → (block_at i x ≡ block_at i y) × ((c : ℕ) → c < classes t → block_at i (next t x c) ≡ block_at i (next t y c))
  joined i x y e =
      let (p, q) = and_true (eqb (block_at i x) (block_at i y)) (every (classes t) (λ c. eqb (block_at i (next t x c)) (block_at i (next t y c)))) e in (
        eqb-true (block_at i x) (block_at i y) p,
        λ c h. eqb-true (block_at i (next t x c)) (block_at i (next t y c)) (every_at (classes t) c (λ c. eqb (block_at i (next t x c)) (block_at i (next t y c))) q h),
      )

  -- And the other way.
  pub join : (i x y : ℕ) → block_at i x ≡ block_at i y → ((c : ℕ) → c < classes t → block_at i (next t x c) ≡ block_at i (next t y c)) → joins (suc i) x y ≡ true
  join i x y e f =
      ap₂ ◌&&◌ (eq-eqb (block_at i x) (block_at i y) e)
      (every_all (classes t) (λ c. eqb (block_at i (next t x c)) (block_at i (next t y c))) (λ c h. eq-eqb (block_at i (next t x c)) (block_at i (next t y c)) (f c h)))

  -- Every round joins by an equivalence.
  pub joins_equivalence : (i : ℕ) → Equivalence (joins i)
  joins_equivalence zero =
      record {
        self = λ x. eq_same (labels t x) (labels t x) refl;
        back = λ x y e. eq_same (labels t y) (labels t x) (sym (same_true (labels t x) (labels t y) e));
        on = λ x y z e f. eq_same (labels t x) (labels t z) (same_true (labels t x) (labels t y) e ∙ same_true (labels t y) (labels t z) f);
      }
  joins_equivalence (suc i) =
      record {
        self = λ x. join i x x refl (λ c h. refl);
        back = λ x y e. let (p, q) = joined i x y e in join i y x (sym p) (λ c h. sym (q c h));
        on = λ x y z e f. let (p, q) = joined i x y e in let (p', q') = joined i y z f in join i x z (p ∙ p') (λ c h. q c h ∙ q' c h);
      }

  module _ (C : Closed t level) where
    -- The block's name is its smallest reached state.
    pub block_least : (i x : ℕ) → reached t level x ≡ true → Least (states t) (names t level (joins i) (joins_equivalence i) x) (block_at i x)
    block_least i x e =
        let h = C.below x e in
        subst (Least (states t) (names t level (joins i) (joins_equivalence i) x)) (sym (block_is i x h)) (smallest_is t level (joins i) (joins_equivalence i) x h e)

    -- States that a round joins are in one block after it.
    pub joins_block : (i x y : ℕ) → reached t level x ≡ true → reached t level y ≡ true → joins i x y ≡ true → block_at i x ≡ block_at i y
    joins_block i x y ex ey q =
        let hx = C.below x ex in
        let hy = C.below y ey in
        block_is i x hx ∙ smallest_same t level (joins i) (joins_equivalence i) x y hx hy ex ey q ∙ sym (block_is i y hy)

    -- And the other way.
    pub block_joins : (i x y : ℕ) → reached t level x ≡ true → reached t level y ≡ true → block_at i x ≡ block_at i y → joins i x y ≡ true
    block_joins i x y ex ey q =
        let hx = C.below x ex in
        let hy = C.below y ey in
        smallest-alike t level (joins i) (joins_equivalence i) x y hx hy ex ey (sym (block_is i x hx) ∙ q ∙ block_is i y hy)

    -- One round more parts no less.
    pub block_before : (i x y : ℕ) → reached t level x ≡ true → reached t level y ≡ true → block_at (suc i) x ≡ block_at (suc i) y → block_at i x ≡ block_at i y
    block_before i x y ex ey q = (joined i x y (block_joins (suc i) x y ex ey q)).0

    -- States of one block go to one block of the round before.
    pub block_next : (i x y c : ℕ) → c < classes t → reached t level x ≡ true → reached t level y ≡ true → block_at (suc i) x ≡ block_at (suc i) y
        → block_at i (next t x c) ≡ block_at i (next t y c)
    block_next i x y c h ex ey q = (joined i x y (block_joins (suc i) x y ex ey q)).1 c h

    -- Reached states alike for i rounds are in one block after i rounds.
    pub alike_block : (i x y : ℕ) → reached t level x ≡ true → reached t level y ≡ true → Alike (classes t) (next t) (labels t) i x y → block_at i x ≡ block_at i y
    alike_block zero x y ex ey a = joins_block 0 x y ex ey (eq_same (labels t x) (labels t y) a)
    alike_block (suc i) x y ex ey (a, f) =
        joins_block (suc i) x y ex ey (join i x y (alike_block i x y ex ey a)
        (λ c h. alike_block i (next t x c) (next t y c) (C.step x c h ex) (C.step y c h ey) (f c h)))

    -- And the other way.
    pub block_alike : (i x y : ℕ) → reached t level x ≡ true → reached t level y ≡ true → block_at i x ≡ block_at i y → Alike (classes t) (next t) (labels t) i x y
    block_alike zero x y ex ey q = same_true (labels t x) (labels t y) (block_joins 0 x y ex ey q)
    block_alike (suc i) x y ex ey q = (
      block_alike i x y ex ey (block_before i x y ex ey q),
      λ c h. block_alike i (next t x c) (next t y c) (C.step x c h ex) (C.step y c h ey) (block_next i x y c h ex ey q),
    )
