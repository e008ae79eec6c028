-- The image of a table depends on the defaults of its own states only.
use mathlib.Core.Path.{◌≡◌, refl, sym, ap, ap₂, ◌∙◌}
use mathlib.Core.Bool.{Bool, cond}
use mathlib.Core.Option.{Option}
use mathlib.Core.List.{List, [], ◌∷◌, ◌++◌}
use Prim.Native.Nat.{ℕ, ◌<◌}
use lib.ListN.{length, get_or}
use Rattle.paper.specs.Below.{each, list}
use Rattle.paper.specs.Words.{bytes16, words, check_word_of}
use Rattle.paper.specs.Table.{edition, states, classes, start, class_of, labels, next}
use Rattle.paper.specs.View.{View}
use Rattle.paper.specs.Results.{default_number_of, label_bytes_of, labels_held_of, record_bytes, entry_bytes, front, trailer, parts, image_of_view, differs, stored_entries, table_view, image_of}
use Rattle.paper.proofs.Below.{each_same}
use Rattle.paper.proofs.Chain.{Inside}
use Rattle.trips.proofs.Agree.{Agree, total_same, depth_same, worst_same}
use Rattle.trips.proofs.ImageParts.{end}
use Rattle.tally.specs.Kept.{kept}
use Rattle.tally.proofs.Owned.{kept-differs}

-- The entries of a state depend on its own default only.
pub entries_at : (t : List ℕ) (f g : ℕ → Option ℕ) (s : ℕ) → f s ≡ g s → stored_entries t f s ≡ stored_entries t g s
unfolding stored_entries
entries_at t f g s e =
    each_same (classes t) (λ c. cond (differs t f s c (f s)) ((c, next t s c) ∷ []) []) (λ c. cond (differs t g s c (g s)) ((c, next t s c) ∷ []) [])
    (λ c hc. ap (λ (b : Bool). cond b ((c, next t s c) ∷ []) []) (sym (kept-differs t f s c (f s)) ∙ ap (kept t s c) e ∙ kept-differs t g s c (g s)))

module _ (t : List ℕ) (f g : ℕ → Option ℕ) (same : (s : ℕ) → s < states t → f s ≡ g s) (inside : Inside (table_view t f)) where
  -- The view with the one defaults.
  abbrev v : View
  v = table_view t f

  -- The view with the others.
  abbrev w : View
  w = table_view t g

  entries_same : (s : ℕ) → s < states t → stored_entries t f s ≡ stored_entries t g s
  entries_same s h = entries_at t f g s (same s h)

  -- The views agree.
  pub views_agree : Agree v w
  views_agree =
      record {
        states_same = refl;
        classes_same = refl;
        default_same = same;
        count_same = λ s h. ap length (entries_same s h);
        class_same = λ s j h hj. ap (λ (l : List (ℕ × ℕ)). (get_or l j (0, 0)).0) (entries_same s h);
        next_same = λ s j h hj. ap (λ (l : List (ℕ × ℕ)). (get_or l j (0, 0)).1) (entries_same s h);
      }

  records_same : each (states t) (record_bytes v) ≡ each (states t) (record_bytes w)
  unfolding record_bytes
  records_same =
      each_same (states t) (record_bytes v) (record_bytes w)
      (λ s h. ap₂ (λ (o : Option ℕ) (x : ℕ). bytes16 (default_number_of o) ++ bytes16 x) (same s h) (ap length (entries_same s h)))

  rows_same : each (states t) (entry_bytes v) ≡ each (states t) (entry_bytes w)
  unfolding entry_bytes
  rows_same =
      each_same (states t) (entry_bytes v) (entry_bytes w)
      (λ s h. ap (λ (l : List (ℕ × ℕ)). each (length l) (λ j. bytes16 (get_or l j (0, 0)).0 ++ bytes16 (get_or l j (0, 0)).1)) (entries_same s h))

  -- The parts of an image of a view of this table.
  abbrev ended : View → List ℕ → List ℕ
  ended u e = parts (edition t) u (start t) (class_of t) (labels t) e

  parts_same : (e : List ℕ) → ended v e ≡ ended w e
  unfolding parts
  parts_same e =
      ap₂ ◌++◌ (ap₂ (front (edition t) (states t) (classes t) (start t)) (depth_same v w views_agree inside) (total_same v w views_agree))
      (ap (λ (l : List ℕ). list 256 (class_of t) ++ l)
      (ap (λ (l : List ℕ). label_bytes_of (edition t) (states t) (labels t) ++ l) (ap₂ ◌++◌ records_same (ap (λ (l : List ℕ). l ++ e) rows_same))))

  -- The trailer of such an image, but for the check word.
  abbrev tail : View → List ℕ
  tail u = end (edition t) u (start t) (class_of t) (labels t)

  -- The images are the same.
  pub image_same : image_of t f ≡ image_of t g
  unfolding image_of image_of_view
  image_same =
      let ends : tail v ≡ tail w =
      ap₂ (λ (m worst : ℕ). trailer (states t) m (labels_held_of (edition t) (states t) (labels t)) worst)
      (total_same v w views_agree) (worst_same v w views_agree inside (class_of t) (class_of t) (λ x h. refl)) in
      let body = parts_same (tail v) ∙ ap (ended w) ends in
      parts_same _ ∙ ap₂ (λ (e b : List ℕ). ended w (e ++ bytes16 (check_word_of (words b)))) ends body
