-- What it is that a list of grounds says a list of sentences, and that the number given is then that of the first sentence that holds.
use mathlib.Core.Path.{◌≡◌, refl, sym, ◌∙◌}
use mathlib.Core.Bool.{Bool, true, false, cond, true≢false}
use mathlib.Core.Logic.{inl, inr, ◌↔◌}
use mathlib.Core.List.{List, [], ◌∷◌, ◌++◌}
use Prim.Native.Nat.{ℕ}
use Rattle.paper.specs.Refusals.{Ground, first}
use Rattle.paper.specs.Sentences.{Sentence, FirstOf}
use Rattle.paper.proofs.Tests.{Holds}

-- The grounds of a list say the sentences of another, each where no sentence before it holds.
abbrev pub Says : List Ground → List Sentence → Type 0
Says [] [] = Unit {0}
Says [] (s ∷ ss) = ⊥
Says (g ∷ gs) [] = ⊥
Says (g ∷ gs) (s ∷ ss) = (g.0 ≡ s.0) × Holds g.1 s.1 × (¬ s.1 → Says gs ss)

-- The number given is that of the first sentence that holds.
pub exact : (gs : List Ground) (ss : List Sentence) → Says gs ss → (number : ℕ) → first gs ≡ number ↔ FirstOf ss number
exact [] [] w number = (sym, sym)
exact [] (s ∷ ss) w number = absurd w
exact (g ∷ gs) [] w number = absurd w
exact (g ∷ gs) (s ∷ ss) (e, h, more) number = go g.1 refl (λ n. exact gs ss (more n) number)
  where
    go : (b : Bool) → g.1 ≡ b → (¬ s.1 → first gs ≡ number ↔ FirstOf ss number) → cond b g.0 (first gs) ≡ number ↔ FirstOf (s ∷ ss) number
    go true q ih = (λ w. inl (h.0 q, sym w ∙ e), back)
      where
        back : FirstOf (s ∷ ss) number → g.0 ≡ number
        back (inl (a, m)) = e ∙ sym m
        back (inr (n, f)) = absurd (n (h.0 q))
    go false q ih = (λ w. inr (not_s, (ih not_s).0 w), back)
      where
        not_s : ¬ s.1
        not_s a = true≢false (sym (h.1 a) ∙ q)

        back : FirstOf (s ∷ ss) number → first gs ≡ number
        back (inl (a, m)) = absurd (not_s a)
        back (inr (n, f)) = (ih n).1 f

-- None of the sentences holds.
abbrev pub NoneOf : List Sentence → Type 0
NoneOf [] = Unit {0}
NoneOf (s ∷ ss) = (¬ s.1) × NoneOf ss

-- One list after another, which need only be said where none of the first holds.
pub says_after : (a b : List Ground) (x y : List Sentence) → Says a x → (NoneOf x → Says b y) → Says (a ++ b) (x ++ y)
says_after [] b [] y w z = z tt
says_after [] b (s ∷ ss) y w z = absurd w
says_after (g ∷ gs) b [] y w z = absurd w
says_after (g ∷ gs) b (s ∷ ss) y (e, h, more) z = (e, h, λ n. says_after gs b ss y (more n) (λ none. z (n, none)))

-- One list after another.
pub says_append : (a b : List Ground) (x y : List Sentence) → Says a x → Says b y → Says (a ++ b) (x ++ y)
says_append a b x y w z = says_after a b x y w (λ _. z)
