-- Each of the grounds 8 to 13 is the paper's sentence, both ways, where no ground before it applies.
use mathlib.Core.Path.{◌≡◌, refl, sym, ap, ◌∙◌}
use mathlib.Core.Bool.{Bool, true, not, true≢false}
use mathlib.Core.Logic.{inl, inr}
use mathlib.Core.Option.{Option, none, some}
use Prim.Native.Nat.{ℕ, zero, suc, ◌<◌}
use native.Mathlib.Decide.{ℕ_discrete, dec_lt}
use native.Mathlib.Omega.{arith}
use lib.Dec.{ltb, leb}
use borrow.Author.Tests.{eqb-true, eq-eqb}
use Rattle.paper.specs.Below.{any, sum, differ, given}
use Rattle.paper.specs.View.{View, Found, chain, find, endless, gives, default_bad_of, default_gives, record_bad_of, class_falls, entry_class_bad, same_as_default, depth_of, worst_hops, view_grounds}
use Rattle.paper.specs.Sentences.{Some, DefaultWrong, RecordWrong, ClassWrong, Returns, Serves, EntryNeedless, SomeEntry, view_sentences}
use Rattle.paper.proofs.Tests.{Holds, holds_less, holds_not_below, holds_differ, holds_or, holds_and, holds_some, none≢some}
use Rattle.paper.proofs.Chain.{Inside, some_same, chain_short}
use Rattle.paper.proofs.Returns.{endless_returns, holds_returns}
use Rattle.paper.proofs.Look.{look_serves, serves_find, look-finds}
use Rattle.paper.proofs.Rising.{Rises}
use Rattle.paper.proofs.Entries.{full_stores}
use Rattle.paper.proofs.Stated.{holds_depth, holds_worst}
use Rattle.paper.proofs.Sentences.{Says}

-- Some of so many for each of so many.
pub holds_pairs : (n : ℕ) (m : ℕ → ℕ) (p : ℕ → ℕ → Bool) (P : ℕ → ℕ → Type 0) → ((i j : ℕ) → i < n → j < m i → Holds (p i j) (P i j))
    → Holds (any n (λ i. any (m i) (p i))) (Some n (λ i. Some (m i) (P i)))
holds_pairs n m p P h =
    holds_some n (λ i. any (m i) (p i)) (λ i. Some (m i) (P i)) (λ i hi. holds_some (m i) (p i) (P i) (λ j hj. h i j hi hj))

module _ (v : View) where
  -- A default neither 65535 nor below n.
  pub holds_default : (o : Option ℕ) → Holds (default_bad_of v.states o) (DefaultWrong v o)
  holds_default none = (λ e. absurd (true≢false (sym e)), λ w. absurd (none≢some none w.0 refl w.1))
  holds_default (some d) =
      let h = holds_not_below d v.states in
      (λ e. (d, refl, h.0 e), λ w. h.1 (λ l. w.2 (rw (← some_same w.1) l)))

  -- No default.
  holds_root : (o : Option ℕ) → Holds (not (given o)) (o ≡ none)
  holds_root none = (λ e. refl, λ w. refl)
  holds_root (some d) = (λ e. absurd (true≢false (sym e)), λ w. absurd (none≢some (some d) d w refl))

  -- Ground 8 at a state.
  holds_record : (s : ℕ) → Holds (record_bad_of v s) (RecordWrong v s)
  holds_record s =
      holds_or (default_bad_of v.states (v.default s)) _ (holds_default (v.default s))
      (holds_or (ltb v.classes (v.count s)) _ (holds_less v.classes (v.count s))
      (holds_and (not (given (v.default s))) (differ (v.count s) v.classes) (holds_root (v.default s)) (holds_differ (v.count s) v.classes)))

  -- Ground 9 at an entry.
  holds_class : (s j : ℕ) → Holds (entry_class_bad v s j) (ClassWrong v s j)
  holds_class s j = holds_or (leb v.classes (v.entry_class s j)) (class_falls v s j) (holds_not_below (v.entry_class s j) v.classes) (falls j)
    where
      falls : (j : ℕ) → Holds (class_falls v s j) ((i : ℕ) × (j ≡ suc i) × (¬ (v.entry_class s i < v.entry_class s j)))
      falls zero = (λ e. absurd (true≢false (sym e)), λ w. absurd (omega (arith, w.1)))
      falls (suc i) =
          let h = holds_not_below (v.entry_class s i) (v.entry_class s (suc i)) in
          (λ e. (i, refl, h.0 e), λ w. let q : i ≡ w.0 = omega (arith, w.1) in h.1 (λ l. w.2 (rw (← q) l)))

  -- A look-up gives a target just where the chain does, where it ends.
  holds_gives : (d l c t : ℕ) → chain v v.states d ≡ some l → Holds (gives (find v d c) t) ((server : ℕ) × (hops : ℕ) × Serves v d c server hops t)
  holds_gives d l c t e = (forth (find v d c) refl, λ w. ap (λ (o : Option Found). gives o t) (serves_find v c d l w.0 w.1 t e (chain_short v v.states d l e) w.2) ∙ eq-eqb t t refl)
    where
      forth : (o : Option Found) → find v d c ≡ o → gives o t ≡ true → (server : ℕ) × (hops : ℕ) × Serves v d c server hops t
      forth none q g = absurd (true≢false (sym g))
      forth (some r) q g = (r.server, r.hops, rw (← eqb-true r.target t g) (look_serves v c v.states d r q))

  -- Ground 12 at an entry, where chains end.
  holds_needless : Inside v → ((s : ℕ) → s < v.states → (l : ℕ) × (chain v v.states s ≡ some l))
      → (s j : ℕ) → s < v.states → Holds (same_as_default v s j) (EntryNeedless v s j)
  holds_needless inside ends s j hs = go (v.default s) refl
    where
      go : (o : Option ℕ) → v.default s ≡ o
          → Holds (default_gives v o (v.entry_class s j) (v.entry_next s j)) ((d : ℕ) × (o ≡ some d) × ((server : ℕ) × (hops : ℕ) × Serves v d (v.entry_class s j) server hops (v.entry_next s j)))
      go none q = (λ e. absurd (true≢false (sym e)), λ w. absurd (none≢some none w.0 refl w.1))
      go (some d) q =
          let (l, e) = ends d (inside s d hs q) in
          let h = holds_gives d l (v.entry_class s j) (v.entry_next s j) e in
          (λ g. (d, refl, h.0 g), λ w. h.1 (w.2.0, w.2.1, rw (some_same w.1) w.2.2))

  -- Where no default is wrong, they stay among the states.
  pub inside_list : ¬ Some v.states (λ s. DefaultWrong v (v.default s)) → Inside v
  inside_list n s d hs q = go (dec_lt d v.states)
    where
      go : Dec (d < v.states) → d < v.states
      go (yes h) = h
      go (no h) = absurd (n (s, hs, (d, q, h)))

  -- Where 11 does not apply either, chains end.
  ends_of : Inside v → ¬ Some v.states (Returns v) → (s : ℕ) → s < v.states → (l : ℕ) × (chain v v.states s ≡ some l)
  ends_of inside n s hs = go (chain v v.states s) refl
    where
      go : (o : Option ℕ) → chain v v.states s ≡ o → (l : ℕ) × (chain v v.states s ≡ some l)
      go none q = absurd (n (s, hs, endless_returns v inside s hs q))
      go (some l) q = (l, q)

  -- Where no entry is wrong, their classes are below k and rise.
  entries-right : ¬ SomeEntry v (ClassWrong v) → (s : ℕ) → s < v.states → ((j : ℕ) → j < v.count s → v.entry_class s j < v.classes) × Rises (v.entry_class s) (v.count s)
  entries-right n s hs = (λ j hj. below j hj (dec_lt (v.entry_class s j) v.classes), λ j hj. up j hj (dec_lt (v.entry_class s j) (v.entry_class s (suc j))))
    where
      below : (j : ℕ) → j < v.count s → Dec (v.entry_class s j < v.classes) → v.entry_class s j < v.classes
      below j hj (yes h) = h
      below j hj (no h) = absurd (n (s, hs, (j, hj, inl h)))

      up : (j : ℕ) → suc j < v.count s → Dec (v.entry_class s j < v.entry_class s (suc j)) → v.entry_class s j < v.entry_class s (suc j)
      up j hj (yes h) = h
      up j hj (no h) = absurd (n (s, hs, (suc j, hj, inr (j, refl, h))))

  -- Where no record is wrong, a root has k entries.
  root_full : ¬ Some v.states (RecordWrong v) → (s : ℕ) → s < v.states → v.default s ≡ none → v.count s ≡ v.classes
  root_full n s hs q = go (ℕ_discrete (v.count s) v.classes)
    where
      go : Dec (v.count s ≡ v.classes) → v.count s ≡ v.classes
      go (yes e) = e
      go (no e) = absurd (n (s, hs, inr (inr (q, e))))

  -- The grounds 8 to 13, where there are states and the class of each byte is one.
  pub view_says : (class_of : ℕ → ℕ) (m depth worst : ℕ) → 0 < v.states → ((x : ℕ) → x < 256 → class_of x < v.classes) → Says (view_grounds v class_of m depth worst) (view_sentences v class_of m depth worst)
  unfolding view_grounds view_sentences
  view_says class_of m depth worst states classed = (
    refl,
    holds_or (any v.states (record_bad_of v)) (differ (sum v.states v.count) m)
        (holds_some v.states (record_bad_of v) (RecordWrong v) (λ s hs. holds_record s)) (holds_differ (sum v.states v.count) m),
    λ not_8.
        let inside = inside_list (λ w. not_8 (inl (w.0, w.1, inl w.2))) in
        let full = root_full (λ w. not_8 (inl w)) in (
          refl,
          holds_pairs v.states v.count (entry_class_bad v) (ClassWrong v) (λ s j hs hj. holds_class s j),
          λ not_9. (
            refl,
            holds_pairs v.states v.count (λ s j. leb v.states (v.entry_next s j)) (λ s j. ¬ (v.entry_next s j < v.states)) (λ s j hs hj. holds_not_below (v.entry_next s j) v.states),
            λ _. (
              refl,
              holds_some v.states (endless v) (Returns v) (holds_returns v inside),
              λ not_11. (
                refl,
                holds_pairs v.states v.count (same_as_default v) (EntryNeedless v) (λ s j hs hj. holds_needless inside (ends_of inside not_11) s j hs),
                λ _.
                    let right = entries-right not_9 in
                    let ends = ends_of inside not_11 in
                    let finds : (s x : ℕ) → s < v.states → x < 256 → (r : Found) × (find v s (class_of x) ≡ some r) =
                    λ s x hs hx. let (l, e) = ends s hs in
                    look-finds v (class_of x) inside (λ y hy q. full_stores v y (right y hy).1 (right y hy).0 (full y hy q) (class_of x) (classed x hx)) v.states s l hs e in (
                      refl,
                      holds_or (differ depth (depth_of v)) (differ worst (worst_hops v class_of)) (holds_depth v states ends depth) (holds_worst v states ends class_of finds worst),
                      λ _. tt,
                    ),
              ),
            ),
          ),
        ),
  )
