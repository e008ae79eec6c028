-- Labels to which ground 19 does not apply, as plain facts on the lists of labels, the same for both editions, and back.
use mathlib.Core.Path.{◌≡◌, refl}
use mathlib.Core.Bool.{Bool, true, false, ◌&&◌, ◌||◌}
use mathlib.Core.List.{List, [], ◌∷◌}
use Prim.Native.Nat.{ℕ, zero, suc, ◌+◌, ◌*◌, ◌≤◌, ◌<◌, zero-le}
use native.Mathlib.Omega.{arith}
use lib.Dec.{ltb, leb, eqb}
use lib.ListN.{length, get_or}
use borrow.Author.Tests.{ltb-false, leb-false, eqb-false, le-ltb, le-leb, lt-leb, ne_eqb}
use Rattle.paper.specs.Below.{any, list}
use Rattle.paper.specs.Words.{number16}
use Rattle.paper.specs.Labels.{Edition, one, two, label_list, label_count, label, labels_from, labels_behind, counts_bad_of, label_falls, labels_bad_of}
use Rattle.paper.proofs.Below.{any_at, any_none}
use Rattle.paper.proofs.Sums.{sum_bound}
use Rattle.paper.proofs.Tests.{or_both, or_neither}
use Rattle.paper.proofs.Lists.{length-list, get_or-list}
use Rattle.facts.proofs.EntryFacts.{any_two, any_neither}

-- How many labels a state may have.
abbrev pub most_labels : Edition → ℕ
most_labels one = 1
most_labels two = 16

-- At most 16 in either edition.
pub most_16 : (e : Edition) → most_labels e ≤ 16
most_16 one = omega arith
most_16 two = omega arith

-- The labels of a state in an edition: not too many, none 0, and rising.
pub record Labelled (e : Edition) (ls : List ℕ) : Type 0 where
  pub few : length ls ≤ most_labels e
  pub above : (j : ℕ) → j < length ls → 0 < get_or ls j 0
  pub rises : (j : ℕ) → suc j < length ls → get_or ls j 0 < get_or ls (suc j) 0

-- Labels that are the same are so together.
pub labelled_same : {e e' : Edition} {ls ls' : List ℕ} → e' ≡ e → ls' ≡ ls → Labelled e ls → Labelled e' ls'
labelled_same E q L = rw (E, q) L

-- In another edition they are such where they are not too many for it.
pub labelled_other : {e : Edition} {ls : List ℕ} (e' : Edition) → length ls ≤ most_labels e' → Labelled e ls → Labelled e' ls
labelled_other e' h L = record { few = h; above = L.above; rises = L.rises }

-- A label's number gives such labels in edition 1.
labelled_one : (x : ℕ) → Labelled one (label_list x)
labelled_one zero = record { few = omega arith; above = λ j h. absurd (omega arith); rises = λ j h. absurd (omega arith) }
labelled_one (suc x) = record { few = omega arith; above = go; rises = λ j h. absurd (omega arith) }
  where
    go : (j : ℕ) → j < 1 → 0 < get_or (suc x ∷ []) j 0
    go zero h = omega arith
    go (suc j) h = absurd (omega arith)

-- A list of c numbers that are not 0 and rise is such in edition 2.
labelled_two : (c : ℕ) (f : ℕ → ℕ) → c ≤ 16 → ((j : ℕ) → j < c → 0 < f j) → ((j : ℕ) → suc j < c → f j < f (suc j)) → Labelled two (list c f)
labelled_two c f few above rises =
    let n = length-list c f in
    record {
      few = omega arith;
      above = λ j h. let l : j < c = omega arith in rw (get_or-list c j f 0 l) (above j l);
      rises = λ j h. let l : suc j < c = omega arith in rw (get_or-list c j f 0 (omega arith), get_or-list c (suc j) f 0 l) (rises j l);
    }

module _ (b : List ℕ) (place n : ℕ) where
  -- Where the counts stand in b and ground 19 does not apply to them, each is at most 16.
  count_few : place + 2 * n ≤ length b → counts_bad_of b place n two ≡ false → (s : ℕ) → s < n → label_count b place s ≤ 16
  count_few long g s hs =
      let counts : any n (λ s. ltb 16 (label_count b place s)) ≡ false = rw (le-leb (place + 2 * n) (length b) long) at g in
      ltb-false 16 (label_count b place s) (any_at n s (λ s. ltb 16 (label_count b place s)) counts hs)

  -- So at most 16 labels for each state stand behind them.
  pub behind_bound : (e : Edition) → place + 2 * n ≤ length b → counts_bad_of b place n e ≡ false → labels_behind b place n e ≤ n * 16
  unfolding labels_behind
  behind_bound one long g = zero-le
  behind_bound two long g = sum_bound n 16 (label_count b place) (count_few long g)

  -- Where ground 19 does not apply, and the counts stand in b, the labels of each state are so.
  pub labels_right : (e : Edition) → place + 2 * n ≤ length b → counts_bad_of b place n e ≡ false → labels_bad_of b place n e ≡ false
      → (s : ℕ) → s < n → Labelled e (labels_from b place n e s)
  unfolding labels_from
  labels_right one long g h s hs = labelled_one (number16 b (place + 2 * s))
  labels_right two long g h s hs =
      let f = label b place n s in
      let c = label_count b place s in
      let at : (j : ℕ) → j < c → (eqb (f j) 0 ≡ false) × (label_falls b place n s j ≡ false)
      = λ j hj. or_both (eqb (f j) 0) (label_falls b place n s j) (any_two n s j (label_count b place) (λ s j. eqb (label b place n s j) 0 || label_falls b place n s j) h hs hj) in
      labelled_two c f (count_few long g s hs)
      (λ j hj. omega (arith, eqb-false (f j) 0 (at j hj).0))
      (λ j hj. leb-false (f (suc j)) (f j) (at (suc j) hj).1)

  -- And the other way.
  pub labels_clear : (e : Edition) → ((s : ℕ) → s < n → Labelled e (labels_from b place n e s)) → (counts_bad_of b place n e ≡ false) × (labels_bad_of b place n e ≡ false)
  unfolding labels_from
  labels_clear one L = (refl, refl)
  labels_clear two L = (counts (leb (place + 2 * n) (length b)), any_neither n (label_count b place) (λ s j. eqb (label b place n s j) 0 || label_falls b place n s j) clear)
    where
      counts : (t : Bool) → t && any n (λ s. ltb 16 (label_count b place s)) ≡ false
      counts true =
          any_none n (λ s. ltb 16 (label_count b place s)) (λ s hs. le-ltb 16 (label_count b place s) (omega (arith, (L s hs).few, length-list (label_count b place s) (label b place n s))))
      counts false = refl

      rising : (s j : ℕ) → s < n → j < label_count b place s → label_falls b place n s j ≡ false
      rising s zero hs hj = refl
      rising s (suc j) hs hj =
          let f = label b place n s in
          let c = label_count b place s in
          let up = (L s hs).rises j (omega (arith, length-list c f)) in
          lt-leb (f (suc j)) (f j) (omega (arith, up, get_or-list c j f 0 (omega arith), get_or-list c (suc j) f 0 hj))

      clear : (s j : ℕ) → s < n → j < label_count b place s → eqb (label b place n s j) 0 || label_falls b place n s j ≡ false
      clear s j hs hj =
          let f = label b place n s in
          let c = label_count b place s in
          let up = (L s hs).above j (omega (arith, length-list c f)) in
          let q : ¬ (f j ≡ 0) = λ q. omega (arith, up, get_or-list c j f 0 hj) in
          or_neither (eqb (f j) 0) (label_falls b place n s j) (ne_eqb (f j) 0 q) (rising s j hs hj)
