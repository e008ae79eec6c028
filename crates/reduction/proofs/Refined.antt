-- The loop over the rounds: until nothing changes, n rounds at most.
use mathlib.Core.Path.{◌≡◌, sym, ap, ◌∙◌, subst}
use mathlib.Core.List.{List}
use Prim.Native.Nat.{ℕ, ◌+◌, ◌≤◌, ◌<◌}
use native.Mathlib.Numerals.{add-one}
use native.Mathlib.Omega.{arith}
use lib.ListN.{get_or, take}
use Rattle.std.proofs.lemmas.List.{get_or-take}
use Rattle.paper.specs.Table.{states}
use Rattle.paper.specs.FallBack.{levels}
use Rattle.paper.specs.Reduce.{blocks}
use Rattle.facts.proofs.TableFacts.{AcceptedTable}
use Rattle.reduction.specs.Named.{Named, Refines}
use Rattle.reduction.proofs.Reach.{closed, reached_below}
use Rattle.reduction.proofs.Quiet.{quiet_last}

module _ (t : List ℕ) (A : AcceptedTable t) (n : ℕ) (N : n ≡ states t) where
  -- A round that changes nothing gives the names after n rounds.
  pub refine_last : (p q : List ℕ) (i : ℕ) → i ≤ n → Named t i p → Refines t p q → take n q ≡ take n p → Named t n p
  refine_last p q i h P R e =
      record {
        names = λ x r.
            P.names x r
            ∙ sym (quiet_last t (levels t) (closed t A) i (omega arith) (λ y w. sym ((R i P).names y w) ∙ same y (reached_below t y w) ∙ P.names y w) x r)
            ∙ ap (λ (m : ℕ). get_or (blocks t (levels t) m) x 0) (sym N);
        others = P.others;
      }
    where
      same : (y : ℕ) → y < states t → get_or q y 0 ≡ get_or p y 0
      same y h =
          let l : y < n = omega arith in
          sym (get_or-take n q y 0 l) ∙ ap (λ (r : List ℕ). get_or r y 0) e ∙ get_or-take n p y 0 l

  -- A round that changes something brings one round more.
  pub refine_more : (p q : List ℕ) (i : ℕ) → Named t i p → Refines t p q → Named t (i + 1) q
  refine_more p q i P R = subst (λ (m : ℕ). Named t m q) (sym (add-one i)) (R i P)
