-- Labels compared by their tags and by the runs behind them, in both editions.
use mathlib.Core.Path.{◌≡◌, refl, sym, ap, ap₂, ◌∙◌}
use mathlib.Core.Bool.{◌&&◌}
use mathlib.Core.List.{List, ◌∷◌, []}
use Prim.Native.Nat.{ℕ, zero, suc, ◌+◌, ◌*◌, ◌≤◌, ◌<◌}
use native.Mathlib.Omega.{arith}
use lib.ListN.{length, get_or}
use Rattle.paper.specs.Below.{same}
use Rattle.paper.specs.Words.{number16}
use Rattle.paper.specs.Labels.{Edition, one, two}
use Rattle.paper.specs.Results.{label_number_of}
use Rattle.paper.specs.Table.{edition, states, labels}
use Rattle.paper.specs.FallBack.{levels}
use Rattle.paper.specs.Reduce.{reached}
use Rattle.paper.proofs.Below.{and_true, bool_false, each_same}
use Rattle.paper.proofs.Lists.{length-list, get_or-list}
use Rattle.facts.proofs.TableFacts.{AcceptedTable}
use Rattle.trips.proofs.Labels.{label_number}
use Rattle.labels.specs.Tags.{tag_of, numbers_from, tagged, Firsts}
use Rattle.labels.proofs.Tags.{labels-tagged, tagged_in}
use Rattle.reduction.specs.Named.{first_name_of, labelled_as}
use Rattle.reduction.proofs.Same.{same_true, eq_same}
use Rattle.reduction.proofs.FirstNames.{first_found}
use Rattle.naming.specs.Ordered.{Same, Before, BeforeIn, numbers}
use Rattle.naming.specs.Heads.{First, Reached}

-- Equal labels have equal tags.
tags_same : (e : Edition) (b : List ℕ) (from other tag mark : ℕ) → tagged e b from tag ≡ tagged e b other mark → tag ≡ mark
tags_same one b from other tag mark q = sym (label_number tag) ∙ ap label_number_of q ∙ label_number mark
tags_same two b from other tag mark q =
    sym (length-list tag (λ j. number16 b (from + 2 * j))) ∙ ap length q ∙ length-list mark (λ j. number16 b (other + 2 * j))

-- A state with the lesser tag comes before.
pub tags_less : (t : List ℕ) (x y : ℕ) → number16 t (262 + 2 * x) < number16 t (262 + 2 * y) → Before (numbers t x) (numbers t y)
tags_less t x y l = (0, λ i h. absurd (omega arith), l)

module _ (t firsts : List ℕ) (F : Firsts t 262 (states t) (edition t) firsts) where
  -- The labels of a state by its tag.
  by_tag : (s : ℕ) → s < states t → labels t s ≡ tagged (edition t) t (262 + 2 * get_or firsts s 0) (tag_of t 262 s)
  unfolding labels
  by_tag s h = labels-tagged t 262 (states t) (edition t) firsts F s h

  -- In edition 2 they are the run that the array says.
  pub labels-run : (s tag : ℕ) → s < states t → edition t ≡ two → tag ≡ number16 t (262 + 2 * s) → labels t s ≡ numbers_from t (262 + 2 * get_or firsts s 0) tag
  labels-run s tag hs h e = by_tag s hs ∙ rw (h, ← e) refl

  module _ (x y : ℕ) (hx : x < states t) (hy : y < states t) where
    -- States with the same labels have the same numbers.
    pub numbers_same : labels t x ≡ labels t y → Same (numbers t x) (numbers t y)
    numbers_same e zero =
        tags_same (edition t) t (262 + 2 * get_or firsts x 0) (262 + 2 * get_or firsts y 0) (tag_of t 262 x) (tag_of t 262 y) (sym (by_tag x hx) ∙ e ∙ by_tag y hy)
    numbers_same e (suc i) = ap (λ (l : List ℕ). get_or l i 0) e

    -- In edition 1 the tag is the label.
    pub tags_agree : number16 t (262 + 2 * x) ≡ number16 t (262 + 2 * y) → edition t ≡ one → labels t x ≡ labels t y
    tags_agree e h = by_tag x hx ∙ rw (h, e) refl ∙ sym (by_tag y hy)

    module _ (tag : ℕ) (ex : tag ≡ number16 t (262 + 2 * x)) (ey : tag ≡ number16 t (262 + 2 * y)) (h : edition t ≡ two) where
      -- The numbers of the runs of both.
      abbrev f : ℕ → ℕ
      f j = number16 t (262 + 2 * get_or firsts x 0 + 2 * j)

      abbrev g : ℕ → ℕ
      g j = number16 t (262 + 2 * get_or firsts y 0 + 2 * j)

      -- They are the labels.
      of_x : (i : ℕ) → i < tag → get_or (labels t x) i 0 ≡ f i
      of_x i k = ap (λ (l : List ℕ). get_or l i 0) (labels-run x tag hx h ex) ∙ get_or-list tag i f 0 k

      of_y : (i : ℕ) → i < tag → get_or (labels t y) i 0 ≡ g i
      of_y i k = ap (λ (l : List ℕ). get_or l i 0) (labels-run y tag hy h ey) ∙ get_or-list tag i g 0 k

      -- So in edition 2 the labels are the same where the runs are,
      pub runs_agree : ((j : ℕ) → j < tag → f j ≡ g j) → labels t x ≡ labels t y
      runs_agree e =
          labels-run x tag hx h ex
          ∙ each_same tag (λ j. f j ∷ []) (λ j. g j ∷ []) (λ j l. ap (λ (n : ℕ). n ∷ []) (e j l))
          ∙ sym (labels-run y tag hy h ey)

      -- and in the order of the runs where they are not.
      pub runs_less : BeforeIn tag f g → Before (numbers t x) (numbers t y)
      runs_less (j, l, e, d) = (suc j, at, omega (arith, of_x j l, of_y j l))
        where
          at : (i : ℕ) → i < suc j → numbers t x i ≡ numbers t y i
          at zero k = sym ex ∙ ey
          at (suc i) k = of_x i (omega arith) ∙ e i (omega arith) ∙ sym (of_y i (omega arith))

    -- States with the same numbers have the same labels.
    pub labels_same : Same (numbers t x) (numbers t y) → labels t x ≡ labels t y
    labels_same s = go (edition t) refl
      where
        go : (e : Edition) → edition t ≡ e → labels t x ≡ labels t y
        go one h = tags_agree (s 0) h
        go two h = runs_agree (tag_of t 262 x) refl (s 0) h (λ j k. sym (of_x (tag_of t 262 x) refl (s 0) h j k) ∙ s (suc j) ∙ of_y (tag_of t 262 x) refl (s 0) h j k)

  -- The first reached state with the numbers of a reached state is its name.
  pub first_name : AcceptedTable t → (x r : ℕ) → x < states t → Reached t x → First (numbers t) (Reached t) x r → r ≡ first_name_of t x
  first_name A x r hx e F =
      first_found t A x r F.below e
      (λ z l. bool_false (labelled_as t x z) (λ w.
      let (a, b) = and_true (reached t (levels t) z) (same (labels t x) (labels t z)) w in
      F.none z l a (numbers_same x z hx (omega (arith, F.below)) (same_true (labels t x) (labels t z) b))))
      (ap₂ ◌&&◌ F.counts (eq_same (labels t x) (labels t r) (labels_same x r hx (omega (arith, F.below)) F.same)))

-- In edition 2 the labels of a state stand in the table.
pub run_inside : (t firsts : List ℕ) (s : ℕ) → AcceptedTable t → Firsts t 262 (states t) (edition t) firsts → s < states t → edition t ≡ two
    → 262 + 2 * get_or firsts s 0 + 2 * number16 t (262 + 2 * s) ≤ length t
run_inside t firsts s A F hs h = tagged_in t 262 (states t) (edition t) firsts F s hs h (omega (arith, A.long))
