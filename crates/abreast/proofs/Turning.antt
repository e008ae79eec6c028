-- A row that has fallen, and the entries laid over it: what holds of both together.
use mathlib.Core.Path.{◌≡◌, refl, sym, ap, ◌∙◌}
use mathlib.Core.Logic.{◌⊎◌, inl, inr}
use mathlib.Core.List.{List}
use Prim.Native.Nat.{ℕ, ◌+◌, ◌-◌, ◌*◌, ◌≤◌, ◌<◌}
use native.Mathlib.Omega.{arith}
use lib.ListN.{get_or, set}
use lib.Seq.{get_or-set_same, get_or-set_other}
use Rattle.paper.specs.Words.{number16}
use Rattle.abreast.specs.Rows.{Fell}
use Rattle.abreast.specs.Laid.{head_class_of, class_in_of, cell_of, Waits, Kept, AllLaid}
use Rattle.abreast.specs.Turned.{Turned, Long}
use Rattle.abreast.proofs.Laying.{head_some}

module _ (b : List ℕ) (first s from : ℕ) (place left wait to hop : List ℕ) {to₁ hop₁ : List ℕ}
    (W : Waits b (get_or place s 0) first (get_or left s 0)) (F : Fell to hop (2 * from) (2 * s) to₁ hop₁) where
  -- Where the entries wait.
  abbrev at : ℕ
  at = get_or place s 0

  abbrev most : ℕ
  most = get_or left s 0

  -- An entry of the two classes is in the cell of the row as it is in that of the row it fell from.
  cell_fell : (i : ℕ) → i < most → class_in_of b at i < first + 2 → get_or to₁ (cell_of b at first (2 * s) i) 0 ≡ get_or to (cell_of b at first (2 * from) i) 0
  cell_fell i h two = F.to_fell (class_in_of b at i - first) (omega (arith, W.from i h))

  -- An entry that the row kept when it had fallen was in the row it fell from.
  pub kept_fell : Kept b at first (2 * s) to₁ most → Kept b at first (2 * from) to most
  kept_fell (i, h, two, e) = (i, h, two, sym (cell_fell i h two) ∙ e)

  -- No entry is of the two classes.
  pub turned_none : get_or wait s 0 ≡ head_class_of b at most → get_or wait s 0 < 65536 → first + 2 ≤ get_or wait s 0 → Turned b first s from place left to hop wait place left wait to₁ hop₁
  turned_none e small h =
      record {
        count = 0;
        within = omega arith;
        past = λ l. omega (arith, h, e ∙ head_some b at most (λ z. absurd (omega arith)), here);
        in_two = λ i l. absurd (omega arith);
        fresh = λ i l. absurd (omega arith);
        to_laid = λ i l. absurd (omega arith);
        hop_laid = λ i l. absurd (omega arith);
        to_fell = λ q l u. F.to_fell q l;
        hop_fell = λ q l u. F.hop_fell q l;
        to_elsewhere = F.to_elsewhere;
        hop_elsewhere = F.hop_elsewhere;
        waiting = record {
          place_is = omega arith;
          left_is = omega arith;
          class_is = e ∙ head_first;
          class_small = omega (arith, small, e ∙ head_first);
        };
        place_others = λ q u. refl;
        left_others = λ q u. refl;
        wait_others = λ q u. refl;
      }
    where
      at_first : at ≡ at + 4 * 0
      at_first = omega arith

      left_first : most ≡ most - 0
      left_first = omega arith

      head_first : head_class_of b at most ≡ head_class_of b (at + 4 * 0) (most - 0)
      head_first = ap (λ (x : ℕ). head_class_of b x most) at_first ∙ ap (head_class_of b (at + 4 * 0)) left_first

      here : class_in_of b at 0 ≡ number16 b at
      here = ap (number16 b) (sym at_first)

  module _ {to₂ hop₂ : List ℕ} {count at' left' class' : ℕ} (A : AllLaid b at first (2 * s) most to₁ hop₁ to₂ hop₂ count at' left' class') where
    -- A cell of the row in which no entry is laid.
    cell_free : (q : ℕ) → q < 2 → ((i : ℕ) → i < count → ¬ (class_in_of b at i ≡ first + q)) → (i : ℕ) → i < count → ¬ (2 * s + q ≡ cell_of b at first (2 * s) i)
    cell_free q l u i h e = u i h (omega (arith, e, W.from i (omega (arith, A.within))))

    -- A cell outside the row is in no entry's place.
    cell_outside : (x : ℕ) → (x < 2 * s) ⊎ (2 * s + 2 ≤ x) → (i : ℕ) → i < count → ¬ (x ≡ cell_of b at first (2 * s) i)
    cell_outside x (inl l) i h e = omega (arith, e)
    cell_outside x (inr l) i h e = omega (arith, e, A.overlaid.in_two i h, W.from i (omega (arith, A.within)))

    -- All entries of the two classes are laid.
    pub turned_all : Long place left wait to hop → s < 512 → Turned b first s from place left to hop wait (set place s at') (set left s left') (set wait s class') to₂ hop₂
    turned_all L hs =
        record {
          count = count;
          within = A.within;
          past = A.past;
          in_two = A.overlaid.in_two;
          fresh = λ i h e. A.overlaid.fresh i h (cell_fell i (omega (arith, A.within)) (A.overlaid.in_two i h) ∙ e);
          to_laid = A.overlaid.to_laid;
          hop_laid = A.overlaid.hop_laid;
          to_fell = λ q l u. A.overlaid.to_other (2 * s + q) (cell_free q l u) ∙ F.to_fell q l;
          hop_fell = λ q l u. A.overlaid.hop_other (2 * s + q) (cell_free q l u) ∙ F.hop_fell q l;
          to_elsewhere = λ x w. A.overlaid.to_other x (cell_outside x w) ∙ F.to_elsewhere x w;
          hop_elsewhere = λ x w. A.overlaid.hop_other x (cell_outside x w) ∙ F.hop_elsewhere x w;
          waiting = record {
            place_is = get_or-set_same place s at' 0 (omega (arith, L.place_long)) ∙ A.at_is;
            left_is = get_or-set_same left s left' 0 (omega (arith, L.left_long)) ∙ A.left_is;
            class_is = get_or-set_same wait s class' 0 (omega (arith, L.wait_long)) ∙ head_all;
            class_small = omega (arith, A.class_small, head_all);
          };
          place_others = λ q u. get_or-set_other place s q at' 0 u;
          left_others = λ q u. get_or-set_other left s q left' 0 u;
          wait_others = λ q u. get_or-set_other wait s q class' 0 u;
        }
      where
        head_all : class' ≡ head_class_of b (at + 4 * count) (most - count)
        head_all = A.class_is ∙ ap (λ (x : ℕ). head_class_of b x left') A.at_is ∙ ap (head_class_of b (at + 4 * count)) A.left_is
