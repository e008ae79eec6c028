-- Values set at the listed states of a patch, one after the other, over a list that has one for each state: one law for every loop that does so.
use mathlib.Core.Path.{◌≡◌, refl, sym, ap, ◌∙◌}
use mathlib.Core.List.{List}
use mathlib.Core.Option.{none, some}
use Prim.Native.Nat.{ℕ, ◌+◌, ◌≤◌, ◌<◌}
use native.Mathlib.Decide.{ℕ_discrete}
use native.Mathlib.Omega.{arith}
use lib.ListN.{length, get_or, set, length-set}
use lib.Seq.{get_or-set_same, get_or-set_other}
use Rattle.paper.specs.Patch.{listed_states, state_at_of, listed_at}
use Rattle.paper.proofs.Rising.{ahead}
use Rattle.facts.proofs.Listed.{listed_some, listed_none}
use Rattle.patch.specs.Listed.{Listed}

-- The first i listed states have their own values, and the others those that they had.
pub record Over (x : List ℕ) (f : ℕ → ℕ) (old new : List ℕ) (i : ℕ) : Type 0 where
  pub long : length new ≡ length old
  pub own : (j : ℕ) → j < i → get_or new (state_at_of x j) 0 ≡ f j
  pub kept : (s : ℕ) → ((j : ℕ) → j < i → ¬ (state_at_of x j ≡ s)) → get_or new s 0 ≡ get_or old s 0

-- At the start none has.
pub over_start : (x : List ℕ) (f : ℕ → ℕ) (old : List ℕ) → Over x f old old 0
over_start x f old = record { long = refl; own = λ j h. absurd (omega arith); kept = λ s h. refl }

-- One state more.
pub over_more : {x : List ℕ} {p n : ℕ} → Listed x p n → (f : ℕ → ℕ) {old new : List ℕ} {i : ℕ} → Over x f old new i → i < p → n ≤ length old
    → (s y : ℕ) → s ≡ state_at_of x i → y ≡ f i → Over x f old (set new s y) (i + 1)
over_more {x} {p} {n} L f {old} {new} {i} O h room s y e w =
    record {
      long = length-set new s y ∙ O.long;
      own = λ j l. own j l (ℕ_discrete j i);
      kept = λ q l. get_or-set_other new s q y 0 (λ z. l i (omega arith) (sym e ∙ sym z)) ∙ O.kept q (λ j k. l j (omega arith));
    }
  where
    own : (j : ℕ) → j < i + 1 → Dec (j ≡ i) → get_or (set new s y) (state_at_of x j) 0 ≡ f j
    own j l (yes z) = rw (z, ← e) (get_or-set_same new s y 0 (omega (arith, O.long, L.below i h, e)) ∙ w)
    own j l (no z) =
        let other : ¬ (state_at_of x j ≡ s) = λ v. absurd (omega (arith, ahead (state_at_of x) p L.rises j i (omega arith) h)) in
        get_or-set_other new s (state_at_of x j) y 0 other ∙ O.own j (omega arith)

module _ {x : List ℕ} (f : ℕ → ℕ) {old new : List ℕ} {i : ℕ} (O : Over x f old new i) (s : ℕ) where
  -- At the end a state that is listed nowhere has what it had.
  pub over_none : i ≡ listed_states x → listed_at x s ≡ none → get_or new s 0 ≡ get_or old s 0
  over_none e q = O.kept s (λ j h. listed_none x s j q (omega arith))

  -- One that is listed has its own.
  pub over_some : i ≡ listed_states x → (j : ℕ) → listed_at x s ≡ some j → get_or new s 0 ≡ f j
  over_some e j q = let (h, w) = listed_some x s j q in ap (λ (t : ℕ). get_or new t 0) (sym w) ∙ O.own j (omega arith)
