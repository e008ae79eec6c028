-- The pairs that can be added: a pair that cannot changes nothing, and what can be added after a join could be before it.
use mathlib.Core.Path.{◌≡◌, refl, sym, ◌∙◌}
use Prim.Native.Nat.{ℕ, zero, suc, ◌≤◌, ◌<◌}
use native.Mathlib.Omega.{arith}
use native.Mathlib.Decide.{dec_le, ℕ_discrete}
use borrow.Author.Tests.{eq-eqb, ne_eqb, le-leb, lt-leb}
use Rattle.paper.specs.Forest.{Trees, joined, d, longest, joined_longest, added_or_dropped, rest}
use Rattle.paper.specs.BestPair.{Viable}
use Rattle.paper.proofs.Join.{Mates}
use Rattle.paper.proofs.Bridge.{joined_bridge}
use Rattle.trees.proofs.Farthest.{d_upper, d_least}
use Rattle.trees.proofs.Longest.{longest_upper, longest_least}

module _ (n D : ℕ) (F : Trees) (p : ℕ × ℕ) where
  -- It can or it cannot.
  pub viable_or_not : Dec (Viable n D F p)
  viable_or_not = go (ℕ_discrete (F.tree p.0) (F.tree p.1)) (dec_le (joined_longest n F p.0 p.1) D)
    where
      go : Dec (Mates F p.0 p.1) → Dec (joined_longest n F p.0 p.1 ≤ D) → Dec (Viable n D F p)
      go (no a) (yes s) = yes (record { apart = a; short = s })
      go (no a) (no s) = no (λ able. s able.short)
      go (yes e) s = no (λ able. able.apart e)

  -- A pair that can be added is.
  pub viable_added : Viable n D F p → added_or_dropped n D F p ≡ joined F p.0 p.1
  unfolding added_or_dropped
  viable_added able = rw (ne_eqb (F.tree p.0) (F.tree p.1) able.apart, le-leb (joined_longest n F p.0 p.1) D able.short)

  -- A pair that cannot changes nothing.
  pub unviable_dropped : ¬ Viable n D F p → added_or_dropped n D F p ≡ F
  unfolding added_or_dropped
  unviable_dropped N = go (ℕ_discrete (F.tree p.0) (F.tree p.1)) (dec_le (joined_longest n F p.0 p.1) D)
    where
      go : Dec (Mates F p.0 p.1) → Dec (joined_longest n F p.0 p.1 ≤ D) → added_or_dropped n D F p ≡ F
      go (yes e) s = rw (eq-eqb (F.tree p.0) (F.tree p.1) e)
      go (no a) (yes s) = absurd (N (record { apart = a; short = s }))
      go (no a) (no s) = rw (ne_eqb (F.tree p.0) (F.tree p.1) a, lt-leb (joined_longest n F p.0 p.1) D (omega arith))

module _ (n D : ℕ) (F : Trees) (u v : ℕ) (apart : ¬ Mates F u v) where
  -- A join makes no longest distance shorter.
  pub joined-d_grows : (x : ℕ) → d n F x ≤ d n (joined F u v) x
  joined-d_grows x =
      let B = joined_bridge F u v apart in
      d_least n F x _ (λ y yb k. omega (arith, B.same x y k, d_upper n (joined F u v) x y yb (B.keep x y k)))

  -- Nor any longest path.
  pub joined-longest_grows : (x : ℕ) → longest n F x ≤ longest n (joined F u v) x
  joined-longest_grows x =
      let B = joined_bridge F u v apart in
      longest_least n F x _ (λ y z yb zb h k.
      omega (arith, B.same y z (sym h ∙ k), longest_upper n (joined F u v) x y z yb zb (B.keep x y h) (B.keep x z k)))

  -- So a pair that can be added after it could be before.
  pub viable_before : (q : ℕ × ℕ) → Viable n D (joined F u v) q → Viable n D F q
  unfolding joined_longest
  viable_before q able =
      record {
        apart = λ e. able.apart ((joined_bridge F u v apart).keep q.0 q.1 e);
        short = omega (arith, able.short, joined-d_grows q.0, joined-d_grows q.1, joined-longest_grows q.0, joined-longest_grows q.1);
      }

  -- In orders 0 and 1 no pair is taken the earlier for it.
  pub rest_grows : (order : ℕ) → order < 2 → (q : ℕ × ℕ) → rest order n F q ≤ rest order n (joined F u v) q
  rest_grows zero l q = omega arith
  rest_grows (suc zero) l q = omega (arith, joined-d_grows q.0, joined-d_grows q.1)
  rest_grows (suc (suc order)) l q = absurd (omega (arith, l))

  -- The pair joined cannot be added again.
  pub joined_unviable : ¬ Viable n D (joined F u v) (u, v)
  joined_unviable able = able.apart ((joined_bridge F u v apart).meet u v refl refl)
