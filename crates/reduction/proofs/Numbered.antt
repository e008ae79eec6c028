-- Numbers counted over the names after n rounds are the new numbers of the reduction.
use mathlib.Core.Path.{◌≡◌, refl, sym, ap, ◌∙◌, subst}
use mathlib.Core.Bool.{Bool, true, false, ◌&&◌}
use mathlib.Core.List.{List}
use Prim.Native.Nat.{ℕ, ◌+◌, ◌≤◌, ◌<◌}
use native.Mathlib.Decide.{ℕ_discrete}
use native.Mathlib.Numerals.{add-one}
use native.Mathlib.Omega.{arith}
use lib.Dec.{eqb}
use lib.ListN.{length, get_or, set, length-set}
use lib.Seq.{get_or-set_same, get_or-set_other}
use borrow.Author.Tests.{ne_eqb}
use Rattle.paper.specs.Below.{how_many_of, bit}
use Rattle.paper.specs.Table.{states}
use Rattle.paper.specs.FallBack.{levels}
use Rattle.paper.specs.Reduce.{reached}
use Rattle.paper.proofs.Counts.{count_same, count_le}
use Rattle.facts.proofs.TableFacts.{AcceptedTable}
use Rattle.reduction.specs.Named.{Named}
use Rattle.reduction.specs.Left.{kept, old, left}
use Rattle.reduction.specs.Numbers.{own, NumbersOf, Renumbers}
use Rattle.reduction.proofs.Reach.{closed, reached_below}
use Rattle.reduction.proofs.Ranks.{rank_below}
use Rattle.reduction.proofs.Stable.{block, name_reached}
use Rattle.reduction.proofs.Renumbered.{left_is, old_ranked}

-- The states before x are numbered: the ranks of those before x, the own states before x in their places, and how many these are.
pub record Numbering (p : List ℕ) (x : ℕ) (rank olds : List ℕ) (count : ℕ) : Type 0 where
  pub long : length rank ≡ 512
  pub wide : length olds ≡ 512
  pub so_far : NumbersOf p x rank olds count

module _ (p : List ℕ) where
  -- At first there are none.
  pub numbering_none : (rank olds : List ℕ) → length rank ≡ 512 → length olds ≡ 512 → Numbering p 0 rank olds 0
  numbering_none rank olds l w =
      record { long = l; wide = w; so_far = record { ranks = λ x h. absurd (omega arith); olds = λ y h e. absurd (omega arith); counted = refl } }

  -- As many as there are states at most.
  pub numbering_few : (x count : ℕ) (rank olds : List ℕ) → Numbering p x rank olds count → count ≤ x
  numbering_few x count rank olds N = omega (arith, N.so_far.counted, count_le x (own p))

  -- One state more: its rank is the count, it stands at that place until an own state takes it, and it is counted where it is one.
  pub numbering_more : (x count : ℕ) (rank olds : List ℕ) (b : ℕ) → x < 512 → b ≡ bit (own p x) → Numbering p x rank olds count
      → Numbering p (x + 1) (set rank x count) (set olds count x) (count + b)
  numbering_more x count rank olds b h e N =
      record {
        long = length-set rank x count ∙ N.long;
        wide = length-set olds count x ∙ N.wide;
        so_far = record {
          ranks = λ y l. rank_at y l (ℕ_discrete y x);
          olds = λ y l o. old_at y l o (ℕ_discrete y x);
          counted = omega (arith, N.so_far.counted, ap (λ (m : ℕ). how_many_of m (own p)) (add-one x));
        };
      }
    where
      rank_at : (y : ℕ) → y < x + 1 → Dec (y ≡ x) → get_or (set rank x count) y 0 ≡ how_many_of y (own p)
      rank_at y l (yes w) = rw w (get_or-set_same rank x count 0 (omega (arith, N.long)) ∙ N.so_far.counted)
      rank_at y l (no w) = get_or-set_other rank x y count 0 w ∙ N.so_far.ranks y (omega arith)

      old_at : (y : ℕ) → y < x + 1 → own p y ≡ true → Dec (y ≡ x) → get_or (set olds count x) (how_many_of y (own p)) 0 ≡ y
      old_at y l o (yes w) =
          let q : how_many_of y (own p) ≡ count = ap (λ (z : ℕ). how_many_of z (own p)) w ∙ sym N.so_far.counted in
          ap (λ (z : ℕ). get_or (set olds count x) z 0) q ∙ get_or-set_same olds count x 0 (omega (arith, N.wide, numbering_few x count rank olds N)) ∙ sym w
      old_at y l o (no w) =
          let less = rank_below (own p) x y (omega arith) o in
          get_or-set_other olds count (how_many_of y (own p)) x 0 (λ q. omega (arith, less, q, N.so_far.counted)) ∙ N.so_far.olds y (omega arith) o

module _ (t : List ℕ) (A : AcceptedTable t) (n : ℕ) (S : n ≡ states t) (p : List ℕ) (N : Named t n p) where
  -- The name of a reached state is its block.
  named_block : (x : ℕ) → reached t (levels t) x ≡ true → get_or p x 0 ≡ block t (levels t) (closed t A) x
  named_block x e = (subst (λ (m : ℕ). Named t m p) S N).names x e

  -- The states that name themselves are those that stay.
  own-kept : (x : ℕ) → x < states t → kept t (levels t) x ≡ own p x
  own-kept x h = go (reached t (levels t) x) refl
    where
      first : (u v w : Bool) → u ≡ true → v ≡ w → u && v ≡ w
      first u v w e q = rw (e, q)

      none : (u v w : Bool) → u ≡ false → w ≡ false → u && v ≡ w
      none u v w e q = rw (e, q)

      go : (r : Bool) → reached t (levels t) x ≡ r → kept t (levels t) x ≡ own p x
      go true q = first (reached t (levels t) x) (eqb (block t (levels t) (closed t A) x) x) (own p x) q (ap (λ (y : ℕ). eqb y x) (sym (named_block x q)))
      go false q =
          none (reached t (levels t) x) (eqb (block t (levels t) (closed t A) x) x) (own p x) q (ne_eqb (get_or p x 0) x (λ w. omega (arith, A.few_states, N.others x h q)))

  -- So many of them are below a state.
  own-count : (x : ℕ) → x ≤ states t → how_many_of x (kept t (levels t)) ≡ how_many_of x (own p)
  own-count x h = count_same x (kept t (levels t)) (own p) (λ y l. own-kept y (omega arith))

  -- The name of a reached state is a state.
  name_below : (x : ℕ) → reached t (levels t) x ≡ true → get_or p x 0 < states t
  name_below x e = omega (arith, named_block x e, reached_below t (block t (levels t) (closed t A) x) (name_reached t (levels t) (closed t A) (states t) x e))

  -- What is counted over the names numbers the states left.
  pub numbers_renumber : (rank olds : List ℕ) (count : ℕ) → NumbersOf p n rank olds count → Renumbers t p rank olds count
  numbers_renumber rank olds count M =
      let L : count ≡ left t (levels t) = M.counted ∙ ap (λ (m : ℕ). how_many_of m (own p)) S ∙ sym (own-count (states t) (omega arith)) ∙ sym (left_is t (levels t)) in
      record {
        left_are = L;
        olds_are = λ s h.
            let x = old t (levels t) s in
            let R = old_ranked t (levels t) (closed t A) s (omega arith) in
            ap (λ (z : ℕ). get_or olds z 0) (sym (sym (own-count x (omega (arith, R.below))) ∙ R.rank)) ∙ M.olds x (omega (arith, R.below)) (sym (own-kept x R.below) ∙ R.passes);
        names_below = name_below;
        new_are = λ x e.
            M.ranks (get_or p x 0) (omega (arith, name_below x e))
            ∙ sym (own-count (get_or p x 0) (omega (arith, name_below x e)))
            ∙ ap (λ (m : ℕ). how_many_of m (kept t (levels t))) (named_block x e);
      }
