-- Eight classes over all states, each after its default: the rows of the states passed hold their hops.
use mathlib.Core.Path.{◌≡◌, refl, sym, ap, subst, ◌∙◌}
use mathlib.Core.Logic.{◌⊎◌, inl, inr}
use mathlib.Core.List.{List}
use Prim.Native.Nat.{ℕ, ◌+◌, ◌-◌, ◌*◌, ◌/◌, ◌≤◌, ◌<◌}
use native.Mathlib.Decide.{ℕ_discrete, dec_lt}
use native.Mathlib.Omega.{arith}
use lib.ListN.{length, get_or}
use borrow.Author.Tests.{eq-eqb, ne_eqb, lt-ltb, le-ltb}
use Rattle.paper.specs.Below.{largest}
use Rattle.paper.specs.Table as table
use Rattle.paper.specs.View.{look}
use Rattle.paper.specs.Image.{default_from_of}
use Rattle.paper.proofs.Below.{largest_upper, largest_least}
use Rattle.words.proofs.Put.{Put}
use Rattle.chains.proofs.Defaults.{from_some}
use Rattle.chains.proofs.Hops.{Within, within_later, within_look}
use Rattle.chains.specs.Orders.{ParentFirst}
use Rattle.table.specs.Counted.{Counted}
use Rattle.tally.specs.Owned.{list_view}
use Rattle.tally.specs.Hops.{last_again_of, Eight, row_number, EightMost}
use Rattle.tally.proofs.Owned.{within_root, within_number}

module _ {k c : ℕ} (classes : List ℕ) (E : Eight k c classes) (hc : c < k) where
  -- Each of the eight is one of the classes from c on.
  pub eight_class : (j : ℕ) → j < 8 → (get_or classes j 0 < k) × (c ≤ get_or classes j 0) × (get_or classes j 0 < c + 8)
  eight_class j h = go (dec_lt (c + j) k)
    where
      go : Dec (c + j < k) → (get_or classes j 0 < k) × (c ≤ get_or classes j 0) × (get_or classes j 0 < c + 8)
      go (yes l) = let e : get_or classes j 0 ≡ c + j = E j h ∙ rw (lt-ltb (c + j) k l) refl in (omega arith, omega arith, omega arith)
      go (no l) = let e : get_or classes j 0 ≡ k - 1 = E j h ∙ rw (le-ltb (c + j) k (omega arith)) refl in (omega arith, omega arith, omega arith)

  -- And each of them that there is stands in its place.
  pub eight_place : (x : ℕ) → x < k → c ≤ x → x < c + 8 → get_or classes (x - c) 0 ≡ x
  eight_place x hx l h =
      let e : c + (x - c) ≡ x = omega arith in
      E (x - c) (omega arith) ∙ ap (last_again_of k) e ∙ rw (lt-ltb x k hx) refl

-- What holds before place i.
pub record Hopping (t def order : List ℕ) (n : ℕ) (classes : List ℕ) (i : ℕ) (hop : List ℕ) : Type 0 where
  pub within : i ≤ n
  pub long : length hop ≡ 4096
  pub rows : (p : ℕ) → p < i → (j : ℕ) → j < 8 → Within (list_view t def) i (get_or order p 0) (get_or classes j 0) (get_or hop (8 * get_or order p 0 + j) 0)

module _ {t def order : List ℕ} {n k c : ℕ} (classes : List ℕ) (T : Counted t n k) (O : ParentFirst n def order) (E : Eight k c classes) (hc : c < k) where
  -- At the start none is passed.
  pub hopping_start : (hop : List ℕ) → length hop ≡ 4096 → Hopping t def order n classes 0 hop
  hopping_start hop l = record { within = omega arith; long = l; rows = λ p h. absurd (omega arith) }

  module _ {i : ℕ} {hop : List ℕ} (H : Hopping t def order n classes i hop) (h : i < n) (s : ℕ) (w : s ≡ get_or order i 0) where
    -- The row of the default is known.
    row-default : ¬ (get_or def s 0 ≡ 65535) → (j : ℕ) → j < 8 → Within (list_view t def) i (get_or def s 0) (get_or classes j 0) (get_or hop (8 * get_or def s 0 + j) 0)
    row-default e j l =
        let (p, hp, q) = O.after i (get_or def s 0) h (ap (λ (x : ℕ). default_from_of (get_or def x 0)) (sym w) ∙ from_some (get_or def s 0) e) in
        subst (λ (x : ℕ). Within (list_view t def) i x (get_or classes j 0) (get_or hop (8 * x + j) 0)) q (H.rows p hp j l)

    -- So one more hop fits.
    pub row_fits : ¬ (get_or def s 0 ≡ 65535) → (j : ℕ) → j < 8 → get_or hop (8 * get_or def s 0 + j) 0 < 512
    row_fits e j l = omega (arith, (row-default e j l).near, T.states_are, T.few_states)

    -- One state more.
    pub hopping_more : {hop' : List ℕ} → s < n → Put hop hop' (8 * s) (row_number t s (get_or def s 0) classes hop) 8 → Hopping t def order n classes (i + 1) hop'
    hopping_more {hop'} hs P =
        record { within = omega arith; long = P.long ∙ H.long; rows = λ p l. row p l (ℕ_discrete p i) }
      where
        below : (j : ℕ) → j < 8 → get_or classes j 0 < table.classes t
        below j l = omega (arith, (eight_class classes E hc j l).0, T.classes_are)

        here : (j : ℕ) → j < 8 → Within (list_view t def) (i + 1) s (get_or classes j 0) (row_number t s (get_or def s 0) classes hop j)
        here j l = go (ℕ_discrete (get_or def s 0) 65535)
          where
            go : Dec (get_or def s 0 ≡ 65535) → Within (list_view t def) (i + 1) s (get_or classes j 0) (row_number t s (get_or def s 0) classes hop j)
            go (yes e) = rw (eq-eqb (get_or def s 0) 65535 e) (within_root t def s (get_or classes j 0) (below j l) i e)
            go (no e) = rw (ne_eqb (get_or def s 0) 65535 e) (within_number t def s (get_or classes j 0) (below j l) i (get_or hop (8 * get_or def s 0 + j) 0) e (row-default e j l))

        outside : (x j : ℕ) → j < 8 → ¬ (x ≡ s) → (8 * x + j < 8 * s) ⊎ (8 * s + 8 ≤ 8 * x + j)
        outside x j l u = side (dec_lt x s)
          where
            side : Dec (x < s) → (8 * x + j < 8 * s) ⊎ (8 * s + 8 ≤ 8 * x + j)
            side (yes b) = inl (omega arith)
            side (no b) = inr (omega arith)

        row : (p : ℕ) → p < i + 1 → Dec (p ≡ i) → (j : ℕ) → j < 8 → Within (list_view t def) (i + 1) (get_or order p 0) (get_or classes j 0) (get_or hop' (8 * get_or order p 0 + j) 0)
        row p l (yes e) j u = rw (e, ← w, P.put j u) (here j u)
        row p l (no e) j u =
            let x = get_or order p 0 in
            let other : ¬ (x ≡ s) = λ q. e (O.once p i (omega arith) h (q ∙ w)) in
            rw (P.kept (8 * x + j) (outside x j u other)) (within_later (H.rows p (omega arith) j u))

  -- At the end the largest of all cells is that of the hops for the eight classes.
  pub hopping_done : {i : ℕ} {hop : List ℕ} → Hopping t def order n classes i hop → n ≤ i → EightMost (list_view t def) n k c (largest (8 * n) (λ x. get_or hop x 0))
  hopping_done {i} {hop} H h = record { over = over; under = λ y _ u. largest_least (8 * n) y (λ x. get_or hop x 0) (under y u) }
    where
      cell : (s j : ℕ) → s < n → j < 8 → (look (list_view t def) s (get_or classes j 0)).hops ≡ get_or hop (8 * s + j) 0
      cell s j hs hj =
          let (p, hp, e) = O.stands s hs in
          within_look (omega (arith, H.within, T.states_are)) (subst (λ (x : ℕ). Within (list_view t def) i x (get_or classes j 0) (get_or hop (8 * x + j) 0)) e (H.rows p (omega arith) j hj))

      over : (s x : ℕ) → s < n → x < k → c ≤ x → x < c + 8 → 0 + (look (list_view t def) s x).hops ≤ largest (8 * n) (λ x. get_or hop x 0)
      over s x hs hx l u =
          let q = x - c in
          let e = cell s q hs (omega arith) in
          omega (arith, e, ap (λ (y : ℕ). (look (list_view t def) s y).hops) (eight_place classes E hc x hx l u), largest_upper (8 * n) (8 * s + q) (λ x. get_or hop x 0) (omega arith))

      under : (y : ℕ) → ((s x : ℕ) → s < n → x < k → x < c + 8 → 0 + (look (list_view t def) s x).hops ≤ y) → (x : ℕ) → x < 8 * n → get_or hop x 0 ≤ y
      under y u x l =
          let s = x / 8 in
          let j = x - 8 * s in
          let e : x ≡ 8 * s + j = omega arith in
          let hs : s < n = omega arith in
          let hj : j < 8 = omega arith in
          let (b, _, f) = eight_class classes E hc j hj in
          omega (arith, ap (λ (z : ℕ). get_or hop z 0) e, cell s j hs hj, u s (get_or classes j 0) hs b f)
