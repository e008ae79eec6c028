-- One state in its turn, in the words of the view: its row keeps what its chain gives for the two classes, and none of its entries of them is needless.
use mathlib.Core.Path.{◌≡◌, refl, sym, ap, ◌∙◌}
use mathlib.Core.Bool.{true}
use mathlib.Core.Option.{Option, none, some}
use mathlib.Core.List.{List}
use Prim.Native.Nat.{ℕ, ◌+◌, ◌-◌, ◌*◌, ◌≤◌, ◌<◌}
use native.Mathlib.Omega.{arith}
use lib.Dec.{eqb}
use lib.ListN.{get_or}
use borrow.Author.Tests.{eq-eqb, ne_eqb}
use Rattle.paper.specs.Below.{any}
use Rattle.paper.specs.View.{View, stored, default_gives, same_as_default, any_entry}
use Rattle.paper.proofs.Below.{any_found}
use Rattle.paper.proofs.Tests.{none≢some}
use Rattle.paper.proofs.Rising.{Rises, full_row}
use Rattle.abreast.specs.Laid.{head_class_of, class_in_of, next_in, Kept}
use Rattle.abreast.specs.Turned.{Turned}
use Rattle.abreast.specs.Keeps.{Keeps, Fits, Stands, RowKeeps, Needed}
use Rattle.abreast.proofs.Cursors.{stored_entry}
use Rattle.abreast.proofs.Stored.{stored_where}
use Rattle.abreast.proofs.Keeping.{Falls, keeps_own, keeps_on, falls-gives}
use Rattle.abreast.proofs.Standing.{waits_among, stands_next}

module _ {v : View} {n : ℕ} (X : Fits v n) (b : List ℕ) (first i s from : ℕ) (place left wait to hop : List ℕ) (hs : s < n) (within : i ≤ n)
    (S : Stands v b first s (get_or place s 0) (get_or left s 0) (get_or wait s 0))
    (F : (q : ℕ) → q < 2 → Falls v i s (first + q) (get_or to (2 * from + q) 0) (get_or hop (2 * from + q) 0)) where
  -- Where the entries wait, and which is the first of them.
  abbrev at : ℕ
  at = get_or place s 0

  abbrev e : ℕ
  e = S.entry

  -- The classes of the state's entries rise.
  up : Rises (v.entry_class s) (v.count s)
  up = X.rises s hs

  -- A root stores every class.
  root_stores : (c : ℕ) → stored v s c ≡ none → v.default s ≡ none → ¬ (c < v.classes)
  root_stores c nothing root l =
      let all = X.full s hs root in
      let h : c < v.count s = omega (arith, all) in
      let full = full_row (v.entry_class s) (v.count s) up v.classes (λ j h. X.class_below s j hs h) all c h in
      absurd (none≢some (stored v s c) (v.entry_next s c) nothing (stored_entry v s up c c h full))

  -- An entry of the two classes is needless just where it is what the row falls from.
  entry_gives : (j q : ℕ) → j < v.count s → q < 2 → v.entry_class s j ≡ first + q → same_as_default v s j ≡ eqb (get_or to (2 * from + q) 0) (v.entry_next s j)
  entry_gives j q h l w =
      let few = X.next_below s j hs h in
      let below : first + q < v.classes = omega (arith, w, X.class_below s j hs h) in
      ap (λ (c : ℕ). default_gives v (v.default s) c (v.entry_next s j)) w
      ∙ falls-gives v (F q l) (omega (arith, X.counted)) below (v.entry_next s j) (omega (arith, few, X.few_states))

  -- Some waiting entry of the two classes is what the row falls from: it is needless.
  pub turn_found : Kept b at first (2 * from) to (get_or left s 0) → any_entry v (same_as_default v) ≡ true
  turn_found (i, h, two, w) =
      let j = e + i in
      let hj : j < v.count s = omega (arith, S.left_is) in
      let above = S.cursor.over j (omega arith) hj in
      let q = class_in_of b at i - first in
      let class_is : v.entry_class s j ≡ first + q = omega (arith, S.reads_class i h, above) in
      let kept : get_or to (2 * from + q) 0 ≡ v.entry_next s j = w ∙ S.reads-next i h in
      any_found v.states s (λ s. any (v.count s) (same_as_default v s)) (omega (arith, X.counted))
      (any_found (v.count s) j (same_as_default v s) hj (entry_gives j q hj (omega (arith, S.reads_class i h, above)) class_is ∙ eq-eqb (get_or to (2 * from + q) 0) (v.entry_next s j) kept))

  module _ {place' left' wait' to' hop' : List ℕ} (T : Turned b first s from place left to hop wait place' left' wait' to' hop') where
    -- An entry of the two classes waits among those that were laid.
    among : (j : ℕ) → j < v.count s → first ≤ v.entry_class s j → v.entry_class s j < first + 2 → (e ≤ j) × (j - e < T.count)
    among = waits_among up S T.count T.within T.past T.in_two

    -- What is read of it.
    class_read : (j : ℕ) → e ≤ j → j - e < T.count → class_in_of b at (j - e) ≡ v.entry_class s j
    class_read j l h = let p : e + (j - e) ≡ j = omega arith in S.reads_class (j - e) (omega (arith, T.within)) ∙ ap (v.entry_class s) p

    next_read : (j : ℕ) → e ≤ j → j - e < T.count → next_in b at (j - e) ≡ v.entry_next s j
    next_read j l h = let p : e + (j - e) ≡ j = omega arith in S.reads-next (j - e) (omega (arith, T.within)) ∙ ap (v.entry_next s) p

    -- None of them is needless.
    pub turn_needed : Needed v first s
    turn_needed j h above below =
        let (l, u) = among j h above below in
        let q = v.entry_class s j - first in
        let class_is : v.entry_class s j ≡ first + q = omega arith in
        let cell : class_in_of b at (j - e) - first ≡ q = omega (arith, class_read j l u) in
        entry_gives j q h (omega arith) class_is
        ∙ ne_eqb (get_or to (2 * from + q) 0) (v.entry_next s j) (λ w. T.fresh (j - e) u (ap (λ (x : ℕ). get_or to (2 * from + x) 0) cell ∙ w ∙ sym (next_read j l u)))

    -- The row keeps what the chain gives.
    pub turn_keeps : RowKeeps v first to' hop' (i + 1) s
    turn_keeps q h = go (stored v s (first + q)) refl
      where
        go : (o : Option ℕ) → stored v s (first + q) ≡ o → Keeps v (i + 1) s (first + q) (get_or to' (2 * s + q) 0) (get_or hop' (2 * s + q) 0)
        go (some t) w =
            let (j, hj, class_is) = stored_where v s (first + q) t w in
            let (l, u) = among j hj (omega (arith, class_is)) (omega (arith, class_is)) in
            let cell : class_in_of b at (j - e) - first ≡ q = omega (arith, class_read j l u, class_is) in
            let target : get_or to' (2 * s + q) 0 ≡ v.entry_next s j = ap (λ (x : ℕ). get_or to' (2 * s + x) 0) (sym cell) ∙ T.to_laid (j - e) u ∙ next_read j l u in
            let hops : get_or hop' (2 * s + q) 0 ≡ 1024 = ap (λ (x : ℕ). get_or hop' (2 * s + x) 0) (sym cell) ∙ T.hop_laid (j - e) u in
            keeps_own v i s (first + q) (get_or to' (2 * s + q) 0) (get_or hop' (2 * s + q) 0) (omega (arith, class_is, X.class_below s j hs hj))
            (stored_entry v s up (first + q) j hj class_is ∙ ap some (sym target)) hops
        go none w =
            let free : (i : ℕ) → i < T.count → ¬ (class_in_of b at i ≡ first + q) = λ i u x.
            absurd (none≢some (stored v s (first + q)) (v.entry_next s (e + i)) w
            (stored_entry v s up (first + q) (e + i) (omega (arith, S.left_is, T.within)) (sym (S.reads_class i (omega (arith, T.within))) ∙ x))) in
            rw (T.to_fell q h free, T.hop_fell q h free) (keeps_on v (F q h) w (root_stores (first + q) w))

    -- And its entries of the next two classes wait.
    pub turn_stands : Stands v b (first + 2) s (get_or place' s 0) (get_or left' s 0) (get_or wait' s 0)
    turn_stands =
        rw (T.waiting.place_is, T.waiting.left_is, T.waiting.class_is)
        (stands_next up S T.count T.within T.past T.in_two (head_class_of b (at + 4 * T.count) (get_or left s 0 - T.count)) refl T.waiting.class_small)
