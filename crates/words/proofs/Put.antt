-- A list into which values are put one after the other from a place on.
use Rattle.std.proofs.Common.{◌≡◌, ℕ, ◌+◌, ◌<◌, ◌≤◌, ◌⊎◌, List, length, get_or, set, refl, ap, ◌∙◌, inl, inr, arith, length-set, get_or-set_other, get_or-set_same}
use native.Mathlib.Decide.{ℕ_discrete}

-- The first so many values are put, and no other place has changed.
pub record Put (old new : List ℕ) (at : ℕ) (f : ℕ → ℕ) (count : ℕ) : Type 0 where
  pub long : length new ≡ length old
  pub put : (i : ℕ) → i < count → get_or new (at + i) 0 ≡ f i
  pub kept : (x : ℕ) → (x < at) ⊎ (at + count ≤ x) → get_or new x 0 ≡ get_or old x 0

module _ {old : List ℕ} {at : ℕ} {f : ℕ → ℕ} where
  -- At the start none is.
  pub put_none : Put old old at f 0
  put_none = record { long = refl; put = λ i h. absurd (omega arith); kept = λ x h. refl }

  -- One more.
  pub put_more : (new : List ℕ) (count place y : ℕ) → Put old new at f count → place ≡ at + count → place < length old → y ≡ f count → Put old (set new place y) at f (count + 1)
  put_more new count place y P p h e =
      record {
        long = length-set new place y ∙ P.long;
        put = λ i l. here i l (ℕ_discrete i count);
        kept = λ x w. rw (get_or-set_other new place x y 0 (apart x w)) (P.kept x (wider x w));
      }
    where
      here : (i : ℕ) → i < count + 1 → Dec (i ≡ count) → get_or (set new place y) (at + i) 0 ≡ f i
      here i l (yes q) = rw (q, ← p, get_or-set_same new place y 0 (omega (arith, P.long))) e
      here i l (no q) = rw (get_or-set_other new place (at + i) y 0 (λ w. q (omega arith))) (P.put i (omega arith))

      apart : (x : ℕ) → (x < at) ⊎ (at + (count + 1) ≤ x) → ¬ (x ≡ place)
      apart x (inl l) w = omega arith
      apart x (inr l) w = omega arith

      wider : (x : ℕ) → (x < at) ⊎ (at + (count + 1) ≤ x) → (x < at) ⊎ (at + count ≤ x)
      wider x (inl l) = inl l
      wider x (inr l) = inr (omega arith)

-- What is put from the first place on.
pub put_read : {old new : List ℕ} {f : ℕ → ℕ} {count : ℕ} → Put old new 0 f count → (i : ℕ) → i < count → get_or new i 0 ≡ f i
put_read {new} P i h = let e : i ≡ 0 + i = omega arith in ap (λ (x : ℕ). get_or new x 0) e ∙ P.put i h
