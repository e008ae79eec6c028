-- Entries laid over a row, one after the other: each is in a cell of its own, since their classes rise.
use mathlib.Core.Path.{◌≡◌, refl, sym, ap, subst, ◌∙◌}
use mathlib.Core.List.{List}
use Prim.Native.Nat.{ℕ, ◌+◌, ◌-◌, ◌*◌, ◌≤◌, ◌<◌}
use native.Mathlib.Decide.{ℕ_discrete}
use native.Mathlib.Omega.{arith}
use lib.ListN.{length, get_or, set, length-set}
use lib.Seq.{get_or-set_same, get_or-set_other}
use borrow.Author.Tests.{eq-eqb, ne_eqb}
use Rattle.paper.specs.Words.{number16}
use Rattle.paper.proofs.Rising.{ahead}
use Rattle.abreast.specs.Laid.{head_class_of, class_in_of, next_in, cell_of, Waits, Overlaid, Kept, AllLaid}

-- Where none is left the class is 65535.
pub head_none : (b : List ℕ) (at left : ℕ) → left ≡ 0 → head_class_of b at left ≡ 65535
unfolding head_class_of
head_none b at left e = rw (eq-eqb left 0 e) refl

-- Where one is it is that of the entry at the place.
pub head_some : (b : List ℕ) (at left : ℕ) → ¬ (left ≡ 0) → head_class_of b at left ≡ number16 b at
unfolding head_class_of
head_some b at left e = rw (ne_eqb left 0 e) refl

module _ {b : List ℕ} {at first left : ℕ} (W : Waits b at first left) where
  -- A class below 65535 is that of an entry.
  pub head_there : (i class : ℕ) → i ≤ left → class ≡ head_class_of b (at + 4 * i) (left - i) → class < 65535 → (i < left) × (class ≡ class_in_of b at i)
  head_there i class h e l = go (ℕ_discrete (left - i) 0)
    where
      go : Dec (left - i ≡ 0) → (i < left) × (class ≡ class_in_of b at i)
      go (yes q) = absurd (omega (arith, e, head_none b (at + 4 * i) (left - i) q))
      go (no q) = (omega arith, e ∙ head_some b (at + 4 * i) (left - i) q)

  -- Two entries are in two cells.
  cells_apart : (row i j : ℕ) → i < j → j < left → ¬ (cell_of b at first row j ≡ cell_of b at first row i)
  cells_apart row i j l h e = omega (arith, e, ahead (class_in_of b at) left W.rises i j l h, W.from i (omega arith), W.from j h)

  module _ {row : ℕ} {to hop : List ℕ} where
    -- At the start none is laid.
    pub laid_none : length to ≡ 1026 → length hop ≡ 1026 → Overlaid b at first row to hop to hop 0
    laid_none lt lh =
        record {
          to_long = lt;
          hop_long = lh;
          in_two = λ i l. absurd (omega arith);
          fresh = λ i l. absurd (omega arith);
          to_laid = λ i l. absurd (omega arith);
          hop_laid = λ i l. absurd (omega arith);
          to_other = λ x h. refl;
          hop_other = λ x h. refl;
        }

    module _ {to' hop' : List ℕ} {count : ℕ} (O : Overlaid b at first row to hop to' hop' count) (h : count < left) where
      -- The cell of the next entry is as it was before the first.
      pub next_cell : get_or to' (cell_of b at first row count) 0 ≡ get_or to (cell_of b at first row count) 0
      next_cell = O.to_other (cell_of b at first row count) (λ i l. cells_apart row i count l h)

      -- One entry more.
      pub laid_more : (cell t : ℕ) → cell ≡ cell_of b at first row count → cell < 1026 → class_in_of b at count < first + 2 → t ≡ next_in b at count → ¬ (get_or to' cell 0 ≡ t)
          → Overlaid b at first row to hop (set to' cell t) (set hop' cell 1024) (count + 1)
      laid_more cell t e room two q other =
          record {
            to_long = length-set to' cell t ∙ O.to_long;
            hop_long = length-set hop' cell 1024 ∙ O.hop_long;
            in_two = λ i l. split (λ i. class_in_of b at i < first + 2) two O.in_two i l (ℕ_discrete i count);
            fresh = λ i l. split (λ i. ¬ (get_or to (cell_of b at first row i) 0 ≡ next_in b at i)) new O.fresh i l (ℕ_discrete i count);
            to_laid = λ i l. split (λ i. get_or (set to' cell t) (cell_of b at first row i) 0 ≡ next_in b at i)
                (rw (← e, get_or-set_same to' cell t 0 (omega (arith, O.to_long))) q)
                (λ i l. rw (get_or-set_other to' cell (cell_of b at first row i) t 0 (apart i l)) (O.to_laid i l)) i l (ℕ_discrete i count);
            hop_laid = λ i l. split (λ i. get_or (set hop' cell 1024) (cell_of b at first row i) 0 ≡ 1024)
                (rw (← e, get_or-set_same hop' cell 1024 0 (omega (arith, O.hop_long))) refl)
                (λ i l. rw (get_or-set_other hop' cell (cell_of b at first row i) 1024 0 (apart i l)) (O.hop_laid i l)) i l (ℕ_discrete i count);
            to_other = λ x u. rw (get_or-set_other to' cell x t 0 (λ w. u count (omega arith) (w ∙ e))) (O.to_other x (λ i l. u i (omega arith)));
            hop_other = λ x u. rw (get_or-set_other hop' cell x 1024 0 (λ w. u count (omega arith) (w ∙ e))) (O.hop_other x (λ i l. u i (omega arith)));
          }
        where
          split : (P : ℕ → Type 0) → P count → ((i : ℕ) → i < count → P i) → (i : ℕ) → i < count + 1 → Dec (i ≡ count) → P i
          split P here before i l (yes w) = rw w here
          split P here before i l (no w) = before i (omega arith)

          apart : (i : ℕ) → i < count → ¬ (cell_of b at first row i ≡ cell)
          apart i l w = cells_apart row i count l h (sym e ∙ sym w)

          new : ¬ (get_or to (cell_of b at first row count) 0 ≡ next_in b at count)
          new w = other (ap (λ (x : ℕ). get_or to' x 0) e ∙ next_cell ∙ w ∙ sym q)

-- Before each turn so many entries are laid, and the next waits.
pub record Laying (b : List ℕ) (at left first row : ℕ) (to hop to' hop' : List ℕ) (place more class : ℕ) : Type 0 where
  pub count : ℕ
  pub overlaid : Overlaid b at first row to hop to' hop' count
  pub within : count ≤ left
  pub place_is : place ≡ at + 4 * count
  pub more_is : more ≡ left - count
  pub class_is : class ≡ head_class_of b place more
  pub class_small : class < 65536

-- The next entry is there, its class is not below the first, and it stands in the bytes.
pub record Next (b : List ℕ) (at first left place class count : ℕ) : Type 0 where
  pub there : count < left
  pub class_of : class ≡ class_in_of b at count
  pub from : first ≤ class
  pub inside : place + 4 ≤ length b

module _ {b : List ℕ} {at first left row : ℕ} {to hop : List ℕ} (W : Waits b at first left) where
  -- At the start.
  pub laying_start : (class : ℕ) → class ≡ head_class_of b at left → class < 65536 → length to ≡ 1026 → length hop ≡ 1026 → Laying b at left first row to hop to hop at left class
  laying_start class e small lt lh =
      record { count = 0; overlaid = laid_none W lt lh; within = omega arith; place_is = omega arith; more_is = omega arith; class_is = e; class_small = small }

  module _ {to' hop' : List ℕ} {place more class : ℕ} (L : Laying b at left first row to hop to' hop' place more class) where
    -- A class of the two is that of the next entry, which stands in the bytes.
    pub laying_there : class < 65535 → (L.count < left) × (class ≡ class_in_of b at L.count)
    laying_there = head_there W L.count class L.within (subst (λ (p : ℕ × ℕ). class ≡ head_class_of b p.0 p.1) (pair_is L.place_is L.more_is) L.class_is)
      where
        pair_is : place ≡ at + 4 * L.count → more ≡ left - L.count → ◌≡◌ {A = ℕ × ℕ} (place, more) (at + 4 * L.count, left - L.count)
        pair_is p q = rw (p, q) refl

    module _ (two : class < first + 2) (few : first ≤ 256) where
      -- A class of the two is that of the next entry.
      pub laying_next : Next b at first left place class L.count
      laying_next =
          let (h, e) = laying_there (omega arith) in
          record { there = h; class_of = e; from = omega (arith, W.from L.count h, e); inside = omega (arith, L.place_is, W.inside) }

      -- An entry that is there already.
      pub laying_found : (t cell : ℕ) → t ≡ number16 b (place + 2) → cell ≡ row + (class - first) → get_or to' cell 0 ≡ t → Kept b at first row to left
      laying_found t cell q e found =
          let N = laying_next in
          let h = N.there in
          let there = N.class_of in
          let cell_is : cell ≡ cell_of b at first row L.count = e ∙ ap (λ (x : ℕ). row + (x - first)) there in
          (L.count, h, omega (arith, there), sym (next_cell W L.overlaid h) ∙ ap (λ (x : ℕ). get_or to' x 0) (sym cell_is) ∙ found ∙ q ∙ ap (λ (x : ℕ). number16 b (x + 2)) L.place_is)

      -- One entry more.
      pub laying_more : (t cell next : ℕ) → t ≡ number16 b (place + 2) → cell ≡ row + (class - first) → row + 2 ≤ 1026 → ¬ (get_or to' cell 0 ≡ t)
          → next ≡ head_class_of b (place + 4) (more - 1) → next < 65536 → Laying b at left first row to hop (set to' cell t) (set hop' cell 1024) (place + 4) (more - 1) next
      laying_more t cell next q e room other n small =
          let N = laying_next in
          let h = N.there in
          let there = N.class_of in
          let cell_is : cell ≡ cell_of b at first row L.count = e ∙ ap (λ (x : ℕ). row + (x - first)) there in
          record {
            count = L.count + 1;
            overlaid = laid_more W L.overlaid h cell t cell_is (omega (arith, N.from)) (omega (arith, there)) (q ∙ ap (λ (x : ℕ). number16 b (x + 2)) L.place_is) other;
            within = omega arith;
            place_is = omega (arith, L.place_is);
            more_is = omega (arith, L.more_is);
            class_is = n;
            class_small = small;
          }

    -- At the end.
    pub laying_done : first ≤ 256 → first + 2 ≤ class → AllLaid b at first row left to hop to' hop' L.count place more class
    laying_done few past =
        record {
          overlaid = L.overlaid;
          within = L.within;
          past = λ h. omega (arith, past, waits h);
          at_is = L.place_is;
          left_is = L.more_is;
          class_is = L.class_is;
          class_small = L.class_small;
        }
      where
        waits : L.count < left → class ≡ class_in_of b at L.count
        waits h =
            let more_there : ¬ (more ≡ 0) = λ z. absurd (omega (arith, L.more_is)) in
            L.class_is ∙ head_some b place more more_there ∙ ap (number16 b) L.place_is
