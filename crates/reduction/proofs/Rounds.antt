-- One round on an array of names: the first state alike is the name after the round.
use mathlib.Core.Path.{◌≡◌, refl, sym, ap, ap₂, ◌∙◌, subst}
use mathlib.Core.Bool.{Bool, true, false, cond, ◌&&◌}
use mathlib.Core.List.{List}
use mathlib.Core.Option.{Option, none, some}
use Prim.Native.Nat.{ℕ, zero, suc, ◌≤◌, ◌<◌}
use native.Mathlib.Omega.{arith}
use lib.Dec.{eqb}
use lib.ListN.{get_or}
use borrow.Author.Tests.{eq-eqb, eqb-true, ne_eqb}
use Rattle.paper.specs.Below.{every, when, or, or_else, first_of}
use Rattle.paper.specs.Table.{states, classes, next}
use Rattle.paper.specs.FallBack.{levels}
use Rattle.paper.specs.Reduce.{reached, alike, blocks}
use Rattle.paper.proofs.Below.{and_true, every_all}
use Rattle.facts.proofs.TableFacts.{AcceptedTable}
use Rattle.reduction.specs.Named.{Named, Refines, meets, NoneBelow, first_alike_of, name_after_of}
use Rattle.reduction.proofs.Firsts.{Least, first_least, least_found}
use Rattle.reduction.proofs.Blocks.{block_at, joins, block_least}
use Rattle.reduction.proofs.Stable.{name_le, name_reached, name_named}
use Rattle.reduction.proofs.Reach.{closed, reached_below}

module _ (t p : List ℕ) where
  -- A state is alike itself.
  meets_self : (x : ℕ) → meets t p x x ≡ true
  meets_self x =
      ap₂ ◌&&◌ (eq-eqb (get_or p x 0) (get_or p x 0) refl)
      (every_all (classes t) (λ c. eqb (get_or p (next t x c) 0) (get_or p (next t x c) 0)) (λ c h. eq-eqb (get_or p (next t x c) 0) (get_or p (next t x c) 0) refl))

  -- Two states that are alike have one name.
  meets_name : (x y : ℕ) → meets t p x y ≡ true → get_or p x 0 ≡ get_or p y 0
  meets_name x y e =
      eqb-true (get_or p x 0) (get_or p y 0)
      (and_true (eqb (get_or p x 0) (get_or p y 0)) (every (classes t) (λ c. eqb (get_or p (next t x c) 0) (get_or p (next t y c) 0))) e).0

  -- The first that is alike is the smallest.
  first_alike : (x : ℕ) → Least (suc x) (meets t p x) (first_alike_of t p x)
  unfolding first_alike_of
  first_alike x =
      subst (Least (suc x) (meets t p x)) (same (first_of x (λ y. when (meets t p x y) y)) (meets t p x x) (meets_self x))
      (first_least (meets t p x) (suc x) x (omega arith) (meets_self x))
    where
      same : (o : Option ℕ) (b : Bool) → b ≡ true → or (or_else o (when b x)) x ≡ or o x
      same none b e = rw e
      same (some y) b e = refl

  -- A state that is alike, where none before it is, is the first.
  pub search_found : (x y : ℕ) → y ≤ x → NoneBelow t p x y → meets t p x y ≡ true → y ≡ first_alike_of t p x
  search_found x y h n e = least_found (suc x) (meets t p x) (first_alike_of t p x) y (first_alike x) (omega arith) e n

  -- A state without a name gets none.
  pub after_none : (x : ℕ) → get_or p x 0 ≡ 65535 → 65535 ≡ name_after_of t p x
  unfolding name_after_of
  after_none x e = sym (ap (λ (b : Bool). cond b 65535 (first_alike_of t p x)) (eq-eqb (get_or p x 0) 65535 e))

  -- A state with a name gets that of the first that is alike.
  pub after_some : (x : ℕ) → ¬ (get_or p x 0 ≡ 65535) → first_alike_of t p x ≡ name_after_of t p x
  unfolding name_after_of
  after_some x ne = sym (ap (λ (b : Bool). cond b 65535 (first_alike_of t p x)) (ne_eqb (get_or p x 0) 65535 ne))

  module _ (A : AcceptedTable t) (i : ℕ) (N : Named t i p) where
    -- The name of a reached state is a state, not above it.
    name_small : (x : ℕ) → reached t (levels t) x ≡ true → (get_or p x 0 ≤ x) × (get_or p x 0 < 512)
    name_small x e =
        let l = name_le t (levels t) (closed t A) i x e in
        (omega (arith, N.names x e), omega (arith, N.names x e, reached_below t x e, A.few_states))

    -- A state with a name is reached.
    name_given : (x : ℕ) → x < states t → ¬ (get_or p x 0 ≡ 65535) → reached t (levels t) x ≡ true
    name_given x h ne = go (reached t (levels t) x) refl
      where
        go : (b : Bool) → reached t (levels t) x ≡ b → reached t (levels t) x ≡ true
        go true q = q
        go false q = absurd (ne (N.others x h q))

    module _ (x : ℕ) (h : x < states t) (ne : ¬ (get_or p x 0 ≡ 65535)) where
      -- The name of a state that has one is a state not above it, which has that name too.
      pub name_head : (get_or p x 0 ≤ x) × (get_or p x 0 < states t) × (get_or p x 0 ≡ get_or p (get_or p x 0) 0)
      name_head =
          let e = name_given x h ne in
          let m = block_at t (levels t) i x in
          let r = name_reached t (levels t) (closed t A) i x e in
          let le = (name_small x e).0 in (
            le,
            omega arith,
            N.names x e ∙ sym (ap (λ (y : ℕ). get_or p y 0) (N.names x e) ∙ N.names m r ∙ name_named t (levels t) (closed t A) i x e),
          )

    -- Reached states are alike by the array just where they are by the blocks.
    meets_is : (x y : ℕ) → reached t (levels t) x ≡ true → reached t (levels t) y ≡ true → meets t p x y ≡ alike t (levels t) (blocks t (levels t) i) x y
    meets_is x y ex ey =
        ap₂ ◌&&◌ (ap₂ eqb (N.names x ex) (N.names y ey))
        (every_same (classes t) (λ c. eqb (get_or p (next t x c) 0) (get_or p (next t y c) 0)) (λ c. eqb (block_at t (levels t) i (next t x c)) (block_at t (levels t) i (next t y c)))
        (λ c h. ap₂ eqb (N.names (next t x c) ((closed t A).step x c h ex)) (N.names (next t y c) ((closed t A).step y c h ey))))
      where
        every_same : (n : ℕ) (f g : ℕ → Bool) → ((c : ℕ) → c < n → f c ≡ g c) → every n f ≡ every n g
        every_same zero f g h = refl
        every_same (suc n) f g h = ap₂ ◌&&◌ (every_same n f g (λ c l. h c (omega arith))) (h n (omega arith))

    -- The first that is alike a reached state names its block after the round.
    first_block : (x : ℕ) → reached t (levels t) x ≡ true → first_alike_of t p x ≡ block_at t (levels t) (suc i) x
    first_block x e = go (reached t (levels t) a) refl
      where
        a : ℕ
        a = first_alike_of t p x

        b : ℕ
        b = block_at t (levels t) (suc i) x

        L : Least (suc x) (meets t p x) a
        L = first_alike x

        F : Least (states t) (λ y. reached t (levels t) y && joins t (levels t) (suc i) x y) b
        F = block_least t (levels t) (closed t A) (suc i) x e

        b_le : b ≤ x
        b_le = name_le t (levels t) (closed t A) (suc i) x e

        b_reached : reached t (levels t) b ≡ true
        b_reached = name_reached t (levels t) (closed t A) (suc i) x e

        a_le : a ≤ b
        a_le =
            L.least b (omega (arith, b_le))
            (meets_is x b e b_reached ∙ (and_true (reached t (levels t) b) (joins t (levels t) (suc i) x b) F.passes).1)

        go : (r : Bool) → reached t (levels t) a ≡ r → a ≡ b
        go true q = omega (arith, a_le, F.least a (reached_below t a q) (ap₂ ◌&&◌ q (sym (meets_is x a e q) ∙ L.passes)))
        go false q =
            absurd (omega (arith, meets_name x a L.passes, (name_small x e).1, N.others a (omega (arith, a_le, b_le, reached_below t x e)) q))

  -- Such names of all states are one round further.
  pub round_names : AcceptedTable t → (r : List ℕ) → ((x : ℕ) → x < states t → get_or r x 0 ≡ name_after_of t p x) → Refines t p r
  round_names A r h i N =
      record {
        names = λ x e.
            h x (reached_below t x e)
            ∙ sym (after_some x (λ w. omega (arith, w, (name_small A i N x e).1)))
            ∙ first_block A i N x e;
        others = λ x l e. h x l ∙ sym (after_none x (N.others x l e));
      }
