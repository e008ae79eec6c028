-- The first place of a list made of the numbers below n.
use mathlib.Core.Path.{◌≡◌, refl, ap}
use mathlib.Core.List.{List, [], ◌∷◌, ◌++◌}
use Prim.Native.Nat.{ℕ, zero, suc}
use Rattle.paper.specs.Below.{list}

module _ {A : Type 0} where
  -- The first place apart.
  pub list_first : (n : ℕ) (f : ℕ → A) → list (suc n) f ≡ f 0 ∷ list n (λ i. f (suc i))
  list_first zero f = refl
  list_first (suc n) f = ap (λ (l : List A). l ++ (f (suc n) ∷ [])) (list_first n f)
