-- The pairs of one weight by any rest: to take the best pair left and drop it for good where it cannot be added comes to the same
-- as to join the best pair that can be added, as long as there is one.
use mathlib.Core.Path.{◌≡◌, refl, sym, ap, ◌∙◌, subst}
use mathlib.Core.List.{List, [], ◌∷◌}
use Prim.Native.Nat.{ℕ, zero, suc}
use native.Mathlib.Omega.{arith}
use lib.ListN.{length}
use Rattle.paper.specs.Paths.{Among}
use Rattle.paper.specs.Forest.{Trees, joined, pairs, without, next_pair, taken, falling}
use Rattle.paper.specs.BestPair.{Weighs, Viable, Best, NoneViable, JoinsBest, JoinsAll}
use Rattle.trees.proofs.Pairs.{next_pair_among, without_among, pairs_weigh}
use Rattle.trees.proofs.Viable.{viable_or_not, viable_added, unviable_dropped, viable_before, joined_unviable}
use Rattle.trees.proofs.Earlier.{Sorted, without_sorted, without_others, without_length, pairs_sorted, pairs_all}
use Rattle.trees.proofs.Ahead.{ahead_both, next_pair_ahead}

module _ (n : ℕ) (rest : Trees → ℕ × ℕ → ℕ) (D : ℕ) (weight : ℕ → ℕ → ℕ) (w : ℕ) where
  -- What the pairs of weight w make of F.
  abbrev pub level_of : Trees → Trees
  level_of F = taken n rest D (length (pairs n weight w)) F (pairs n weight w)

  -- A sorted list of pairs of weight w with all that can be added to F.
  record Left (F : Trees) (ps : List (ℕ × ℕ)) : Type 0 where
    sorted : Sorted ps
    some : (q : ℕ × ℕ) → Among q ps → Weighs n weight w q
    all : (q : ℕ × ℕ) → Weighs n weight w q → Viable n D F q → Among q ps

  -- All pairs of the weight are such a list.
  left_all : (F : Trees) → Left F (pairs n weight w)
  left_all F = record { sorted = pairs_sorted n weight w; some = pairs_weigh n weight w; all = λ q W able. pairs_all n weight w q W }

  module _ (F : Trees) (p : ℕ × ℕ) (ps : List (ℕ × ℕ)) (L : Left F (p ∷ ps)) where
    -- The pair that is taken next.
    abbrev next : ℕ × ℕ
    next = next_pair n rest F p ps

    -- The pairs behind it.
    abbrev others : List (ℕ × ℕ)
    others = without next (p ∷ ps)

    -- There is one less of them.
    others_length : (left : ℕ) → length (p ∷ ps) ≡ suc left → length others ≡ left
    others_length left e = omega (arith, without_length next (p ∷ ps) (next_pair_among n rest F p ps), e)

    -- They are left for any trees to which the pair taken cannot be added, and no pair that could not be before.
    others_left : (G : Trees) → ¬ Viable n D G next → ((q : ℕ × ℕ) → Viable n D G q → Viable n D F q) → Left G others
    others_left G used before =
        record {
          sorted = without_sorted next (p ∷ ps) L.sorted;
          some = λ q m. L.some q (without_among next q (p ∷ ps) m);
          all = λ q W able. without_others next q (p ∷ ps) (L.all q W (before q able)) (λ e. used (subst (Viable n D G) e able));
        }

    -- Where the pair taken can be added it is the best that can.
    next_best : Viable n D F next → Best n rest D weight w F next
    next_best able =
        record {
          weighs = L.some next (next_pair_among n rest F p ps);
          viable = able;
          ahead = λ r W k. next_pair_ahead n rest F p ps L.sorted r (L.all r W k);
        }

    -- The others are left after it is joined.
    next-joined : Viable n D F next → Left (joined F next.0 next.1) others
    next-joined able =
        let apart = able.apart in
        others_left (joined F next.0 next.1) (joined_unviable n D F next.0 next.1 apart) (viable_before n D F next.0 next.1 apart)

    -- The others are left after it is dropped.
    next_dropped : ¬ Viable n D F next → Left F others
    next_dropped not_able = others_left F not_able (λ q k. k)

  -- The best pair is one.
  best_one : (F : Trees) (p q : ℕ × ℕ) → Best n rest D weight w F p → Best n rest D weight w F q → p ≡ q
  best_one F p q B C = ahead_both n rest F p q (B.ahead q C.weighs C.viable) (C.ahead p B.weighs B.viable)

  -- Where no pair can be added the pairs left change nothing.
  taken_none : (left : ℕ) (F : Trees) (ps : List (ℕ × ℕ)) → length ps ≡ left → Left F ps → NoneViable n rest D weight w F → taken n rest D left F ps ≡ F
  taken_none zero F ps e L none = refl
  taken_none (suc left) F [] e L none = refl
  taken_none (suc left) F (p ∷ ps) e L none =
      let q = next F p ps L in
      let not_able = none q (L.some q (next_pair_among n rest F p ps)) in
      ap (λ (G : Trees). taken n rest D left G (others F p ps L)) (unviable_dropped n D F q not_able)
      ∙ taken_none left F (others F p ps L) (others_length F p ps L left e) (next_dropped F p ps L not_able) none

  -- What is left after the best pair is joined.
  record After (F : Trees) (q : ℕ × ℕ) (made : Trees) : Type 0 where
    then : List (ℕ × ℕ)
    left : Left (joined F q.0 q.1) then
    same : made ≡ taken n rest D (length then) (joined F q.0 q.1) then

  -- The pairs left come to the same as the best of them joined and then others left.
  taken_best : (left : ℕ) (F : Trees) (ps : List (ℕ × ℕ)) (q : ℕ × ℕ) → length ps ≡ left → Left F ps → Best n rest D weight w F q → After F q (taken n rest D left F ps)
  taken_best zero F [] q e L B = absurd (L.all q B.weighs B.viable)
  taken_best zero F (p ∷ ps) q e L B = absurd (omega (arith, e))
  taken_best (suc left) F [] q e L B = absurd (omega (arith, e))
  taken_best (suc left) F (p ∷ ps) q e L B =
      go (viable_or_not n D F (next F p ps L))
      (λ N. taken_best left F (others F p ps L) q (others_length F p ps L left e) (next_dropped F p ps L N) B)
    where
      go : Dec (Viable n D F (next F p ps L)) → (¬ Viable n D F (next F p ps L) → After F q (taken n rest D left F (others F p ps L)))
          → After F q (taken n rest D (suc left) F (p ∷ ps))
      go (yes able) ih =
          subst (λ (r : ℕ × ℕ). After F r (taken n rest D (suc left) F (p ∷ ps))) (best_one F (next F p ps L) q (next_best F p ps L able) B)
          (record {
            then = others F p ps L;
            left = next-joined F p ps L able;
            same = rw (others_length F p ps L left e) (ap (λ (G : Trees). taken n rest D left G (others F p ps L)) (viable_added n D F (next F p ps L) able));
          })
      go (no N) ih =
          let A = ih N in
          record {
            then = A.then;
            left = A.left;
            same = ap (λ (G : Trees). taken n rest D left G (others F p ps L)) (unviable_dropped n D F (next F p ps L) N) ∙ A.same;
          }

  -- Any two lists left come to the same.
  taken_same : (left : ℕ) (F : Trees) (ps qs : List (ℕ × ℕ)) → length ps ≡ left → Left F ps → Left F qs
      → taken n rest D left F ps ≡ taken n rest D (length qs) F qs
  taken_same zero F [] qs e L K = sym (taken_none (length qs) F qs refl K (λ q W able. L.all q W able))
  taken_same zero F (p ∷ ps) qs e L K = absurd (omega (arith, e))
  taken_same (suc left) F [] qs e L K = absurd (omega (arith, e))
  taken_same (suc left) F (p ∷ ps) qs e L K =
      go (viable_or_not n D F (next F p ps L))
      (λ G rs M N. taken_same left G (others F p ps L) rs (others_length F p ps L left e) M N)
    where
      go : Dec (Viable n D F (next F p ps L))
          → ((G : Trees) (rs : List (ℕ × ℕ)) → Left G (others F p ps L) → Left G rs → taken n rest D left G (others F p ps L) ≡ taken n rest D (length rs) G rs)
          → taken n rest D (suc left) F (p ∷ ps) ≡ taken n rest D (length qs) F qs
      go (yes able) ih =
          let q = next F p ps L in
          let A = taken_best (length qs) F qs q refl K (next_best F p ps L able) in
          ap (λ (G : Trees). taken n rest D left G (others F p ps L)) (viable_added n D F q able)
          ∙ ih (joined F q.0 q.1) A.then (next-joined F p ps L able) A.left
          ∙ sym A.same
      go (no N) ih =
          ap (λ (G : Trees). taken n rest D left G (others F p ps L)) (unviable_dropped n D F (next F p ps L) N)
          ∙ ih F qs (next_dropped F p ps L N) K

  -- The pairs of a weight make of F what they make of F with the best pair joined.
  pub level_joins : (F : Trees) (q : ℕ × ℕ) → Best n rest D weight w F q → level_of F ≡ level_of (joined F q.0 q.1)
  level_joins F q B =
      let ps = pairs n weight w in
      let A = taken_best (length ps) F ps q refl (left_all F) B in
      let G : Trees = joined F q.0 q.1 in
      A.same ∙ taken_same (length A.then) G A.then ps refl A.left (left_all G)

  -- Where no pair can be added they change nothing.
  pub level-ends : (F : Trees) → NoneViable n rest D weight w F → level_of F ≡ F
  level-ends F none = taken_none (length (pairs n weight w)) F (pairs n weight w) refl (left_all F) none

  -- The pairs left, taken one by one, join the best pair that can be added as long as there is one.
  taken_joins : (left : ℕ) (F : Trees) (ps : List (ℕ × ℕ)) → length ps ≡ left → Left F ps → (joins : ℕ) × JoinsBest n rest D weight w joins F (taken n rest D left F ps)
  taken_joins zero F [] e L = (0, (λ q W able. L.all q W able, refl))
  taken_joins zero F (p ∷ ps) e L = absurd (omega (arith, e))
  taken_joins (suc left) F [] e L = absurd (omega (arith, e))
  taken_joins (suc left) F (p ∷ ps) e L =
      go (viable_or_not n D F (next F p ps L)) (λ G M. taken_joins left G (others F p ps L) (others_length F p ps L left e) M)
    where
      go : Dec (Viable n D F (next F p ps L))
          → ((G : Trees) → Left G (others F p ps L) → (joins : ℕ) × JoinsBest n rest D weight w joins G (taken n rest D left G (others F p ps L)))
          → (joins : ℕ) × JoinsBest n rest D weight w joins F (taken n rest D (suc left) F (p ∷ ps))
      go (yes able) ih =
          let q = next F p ps L in
          let (more, J) = ih (joined F q.0 q.1) (next-joined F p ps L able) in
          (suc more, (q, next_best F p ps L able, subst (λ (G : Trees). JoinsBest n rest D weight w more (joined F q.0 q.1) (taken n rest D left G (others F p ps L))) (sym (viable_added n D F q able)) J))
      go (no N) ih =
          let (more, J) = ih F (next_dropped F p ps L N) in
          (more, subst (λ (G : Trees). JoinsBest n rest D weight w more F (taken n rest D left G (others F p ps L))) (sym (unviable_dropped n D F (next F p ps L) N)) J)

  -- Whatever is so joined is what they make.
  joins_level : (joins : ℕ) (F G : Trees) → JoinsBest n rest D weight w joins F G → level_of F ≡ G
  joins_level zero F G (none, e) = level-ends F none ∙ sym e
  joins_level (suc more) F G (q, B, J) = level_joins F q B ∙ joins_level more (joined F q.0 q.1) G J

-- So it is weight by weight: the forest joins, of the pairs of the greatest weight, the best that can be added as long as there is one.
pub falling_joins : (n : ℕ) (rest : Trees → ℕ × ℕ → ℕ) (D : ℕ) (weight : ℕ → ℕ → ℕ) (w : ℕ) (F : Trees) → JoinsAll n rest D weight w F (falling n rest D weight w F)
falling_joins n rest D weight zero F = refl
falling_joins n rest D weight (suc w) F =
    let ps = pairs n weight (suc w) in
    let G = taken n rest D (length ps) F ps in
    (G, taken_joins n rest D weight (suc w) (length ps) F ps refl (left_all n rest D weight (suc w) F), falling_joins n rest D weight w G)

-- There is no other forest that is so joined.
pub joins_falling : (n : ℕ) (rest : Trees → ℕ × ℕ → ℕ) (D : ℕ) (weight : ℕ → ℕ → ℕ) (w : ℕ) (F G : Trees) → JoinsAll n rest D weight w F G → falling n rest D weight w F ≡ G
joins_falling n rest D weight zero F G e = sym e
joins_falling n rest D weight (suc w) F G (H, (joins, J), more) =
    ap (λ (K : Trees). falling n rest D weight w K) (joins_level n rest D weight (suc w) joins F H J) ∙ joins_falling n rest D weight w H G more
