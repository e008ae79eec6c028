-- Views that agree on their states and entries: they have the same chains, look-ups, depth and worst, and are sound together.
use mathlib.Core.Path.{◌≡◌, refl, sym, ap, ap₂, ◌∙◌}
use mathlib.Core.Option.{Option, none, some}
use Prim.Native.Nat.{ℕ, zero, suc, ◌<◌}
use native.Mathlib.Omega.{arith}
use lib.Dec.{eqb}
use Rattle.paper.specs.Below.{or, when, sum, largest, first_of}
use Rattle.paper.specs.View.{View, Found, chain, chained, longer, depth_of, look_up_of, find, served, further, gives, stored, worst_hops, default_gives, same_as_default}
use Rattle.paper.proofs.Below.{largest_same, first_of_same}
use Rattle.paper.proofs.Sums.{sum_same}
use Rattle.paper.proofs.Chain.{Inside}
use Rattle.paper.proofs.Look.{hops_of}
use Rattle.facts.proofs.ViewFacts.{Sound}

-- Two views agree on their states and entries.
pub record Agree (v w : View) : Type 0 where
  pub states_same : v.states ≡ w.states
  pub classes_same : v.classes ≡ w.classes
  pub default_same : (s : ℕ) → s < v.states → v.default s ≡ w.default s
  pub count_same : (s : ℕ) → s < v.states → v.count s ≡ w.count s
  pub class_same : (s j : ℕ) → s < v.states → j < v.count s → v.entry_class s j ≡ w.entry_class s j
  pub next_same : (s j : ℕ) → s < v.states → j < v.count s → v.entry_next s j ≡ w.entry_next s j

-- Then they agree the other way round.
pub agree-back : (v w : View) → Agree v w → Agree w v
agree-back v w S =
    let down : (s : ℕ) → s < w.states → s < v.states = λ s h. omega (arith, S.states_same) in
    let few : (s j : ℕ) (h : s < w.states) → j < w.count s → j < v.count s = λ s j h hj. omega (arith, S.count_same s (down s h)) in
    record {
      states_same = sym S.states_same;
      classes_same = sym S.classes_same;
      default_same = λ s h. sym (S.default_same s (down s h));
      count_same = λ s h. sym (S.count_same s (down s h));
      class_same = λ s j h hj. sym (S.class_same s j (down s h) (few s j h hj));
      next_same = λ s j h hj. sym (S.next_same s j (down s h) (few s j h hj));
    }

-- Chains depend on the defaults only.
pub chain_same : (v w : View) → Inside v → ((s : ℕ) → s < v.states → v.default s ≡ w.default s) → (left s : ℕ) → s < v.states → chain v left s ≡ chain w left s
chain_same v w inside same zero s h = refl
chain_same v w inside same (suc left) s h =
    go (v.default s) refl (chain_same v w inside same left) ∙ ap (λ (o : Option ℕ). chained o (λ d. chain w left d)) (same s h)
  where
    go : (o : Option ℕ) → v.default s ≡ o → ((d : ℕ) → d < v.states → chain v left d ≡ chain w left d)
        → chained o (λ d. chain v left d) ≡ chained o (λ d. chain w left d)
    go none q ih = refl
    go (some d) q ih = ap longer (ih d (inside s d h q))

module _ (v w : View) (S : Agree v w) where
  -- They have the same number of entries.
  pub total_same : sum v.states v.count ≡ sum w.states w.count
  total_same = sum_same v.states v.count w.count S.count_same ∙ ap (λ (x : ℕ). sum x w.count) S.states_same

  -- They store the same.
  pub stored_same : (s c : ℕ) → s < v.states → stored v s c ≡ stored w s c
  unfolding stored
  stored_same s c hs =
      first_of_same (v.count s) (λ j. when (eqb (v.entry_class s j) c) (v.entry_next s j)) (λ j. when (eqb (w.entry_class s j) c) (w.entry_next s j))
      (λ j hj. ap₂ (λ (a b : ℕ). when (eqb a c) b) (S.class_same s j hs hj) (S.next_same s j hs hj))
      ∙ ap (λ (x : ℕ). first_of x (λ j. when (eqb (w.entry_class s j) c) (w.entry_next s j))) (S.count_same s hs)

  module _ (inside : Inside v) where
    -- They have the same depth.
    pub depth_same : depth_of v ≡ depth_of w
    unfolding depth_of
    depth_same =
        largest_same v.states (λ s. or (chain v v.states s) 0) (λ s. or (chain w v.states s) 0)
        (λ s h. ap (λ (o : Option ℕ). or o 0) (chain_same v w inside S.default_same v.states s h))
        ∙ ap (λ (n : ℕ). largest n (λ s. or (chain w n s) 0)) S.states_same

    look_same : (c left s : ℕ) → s < v.states → look_up_of v left s c ≡ look_up_of w left s c
    look_same c zero s h = refl
    look_same c (suc left) s h =
        go (stored v s c) (v.default s) refl (look_same c left)
        ∙ ap₂ (λ (o p : Option ℕ). served s o p (λ d. look_up_of w left d c)) (stored_same s c h) (S.default_same s h)
      where
        go : (o p : Option ℕ) → v.default s ≡ p → ((d : ℕ) → d < v.states → look_up_of v left d c ≡ look_up_of w left d c)
            → served s o p (λ d. look_up_of v left d c) ≡ served s o p (λ d. look_up_of w left d c)
        go (some t) p q ih = refl
        go none none q ih = refl
        go none (some d) q ih = ap further (ih d (inside s d h q))

    -- Their chains give the same.
    pub find_same : (s c : ℕ) → s < v.states → find v s c ≡ find w s c
    find_same s c h = look_same c v.states s h ∙ ap (λ (n : ℕ). look_up_of w n s c) S.states_same

    -- They have the same worst, for the same classes of the bytes.
    pub worst_same : (class_of class_of' : ℕ → ℕ) → ((x : ℕ) → x < 256 → class_of x ≡ class_of' x) → worst_hops v class_of ≡ worst_hops w class_of'
    unfolding worst_hops
    worst_same class_of class_of' same =
        largest_same v.states (λ s. largest 256 (λ x. hops_of (find v s (class_of x)))) (λ s. largest 256 (λ x. hops_of (find w s (class_of' x))))
        (λ s h. largest_same 256 (λ x. hops_of (find v s (class_of x))) (λ x. hops_of (find w s (class_of' x)))
        (λ x hx. ap hops_of (find_same s (class_of x) h ∙ ap (find w s) (same x hx))))
        ∙ ap (λ (n : ℕ). largest n (λ s. largest 256 (λ x. hops_of (find w s (class_of' x))))) S.states_same

    alike : (s j : ℕ) → s < v.states → j < v.count s → same_as_default v s j ≡ same_as_default w s j
    alike s j h hj =
        go (v.default s) refl (v.entry_class s j) (v.entry_next s j)
        ∙ ap (λ (o : Option ℕ). default_gives w o (v.entry_class s j) (v.entry_next s j)) (S.default_same s h)
        ∙ ap₂ (λ (c t : ℕ). default_gives w (w.default s) c t) (S.class_same s j h hj) (S.next_same s j h hj)
      where
        go : (o : Option ℕ) → v.default s ≡ o → (c t : ℕ) → default_gives v o c t ≡ default_gives w o c t
        go none q c t = refl
        go (some d) q c t = ap (λ (r : Option Found). gives r t) (find_same d c (inside s d h q))

  -- Where one is sound the other is.
  pub sound_same : Sound v → Sound w
  sound_same A =
      let N = S.states_same in
      let K = S.classes_same in
      let down : (s : ℕ) → s < w.states → s < v.states = λ s h. omega arith in
      let few : (s j : ℕ) (h : s < w.states) → j < w.count s → j < v.count s = λ s j h hj. omega (arith, S.count_same s (down s h)) in
      record {
        full = λ s h q. sym (S.count_same s (down s h)) ∙ A.full s (down s h) (S.default_same s (down s h) ∙ q) ∙ K;
        inside = λ s d h q. omega (arith, A.inside s d (down s h) (S.default_same s (down s h) ∙ q));
        few = λ s h. omega (arith, S.count_same s (down s h), A.few s (down s h));
        class_below = λ s j h hj. omega (arith, S.class_same s j (down s h) (few s j h hj), A.class_below s j (down s h) (few s j h hj));
        rises = λ s j h hj.
            omega (arith, S.class_same s j (down s h) (few s j h (omega arith)), S.class_same s (suc j) (down s h) (few s (suc j) h hj), A.rises s j (down s h) (few s (suc j) h hj));
        next_below = λ s j h hj. omega (arith, S.next_same s j (down s h) (few s j h hj), A.next_below s j (down s h) (few s j h hj));
        ends = λ s h. let (l, e) = A.ends s (down s h) in (l, ap (λ (x : ℕ). chain w x s) (sym N) ∙ sym (chain_same v w A.inside S.default_same v.states s (down s h)) ∙ e);
        needed = λ s j h hj. sym (alike A.inside s j (down s h) (few s j h hj)) ∙ A.needed s j (down s h) (few s j h hj);
      }
