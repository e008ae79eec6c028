-- What one state stores with any defaults: every class without a default, and with one the classes that it does not share with it.
use mathlib.Core.Path.{◌≡◌, refl, ap, ◌∙◌}
use mathlib.Core.Bool.{true}
use mathlib.Core.List.{List}
use mathlib.Core.Option.{Option, none, some}
use Prim.Native.Nat.{ℕ, ◌+◌}
use native.Mathlib.Omega.{arith}
use lib.Dec.{eqb}
use lib.ListN.{length}
use Rattle.paper.specs.Below.{how_many_of}
use Rattle.paper.specs.Table.{classes, next, shared}
use Rattle.paper.specs.Results.{differs, stored_entries}
use Rattle.paper.proofs.Counts.{count_both, count_all, length_passed}

module _ (t : List ℕ) (f : ℕ → Option ℕ) (s : ℕ) where
  -- A state stores the classes in which it differs from its default.
  stored-differ : (o : Option ℕ) → f s ≡ o → length (stored_entries t f s) ≡ how_many_of (classes t) (λ c. differs t f s c o)
  unfolding stored_entries
  stored-differ o e = length_passed (classes t) (λ c. differs t f s c (f s)) (λ c. (c, next t s c)) ∙ ap (λ (p : Option ℕ). how_many_of (classes t) (λ c. differs t f s c p)) e

  -- Without a default it stores k.
  pub stored-root : f s ≡ none → length (stored_entries t f s) ≡ classes t
  stored-root e = stored-differ none e ∙ count_all (classes t) (λ c. true) (λ c h. refl)

  -- With one, what it stores and what it shares make k.
  pub stored-shared : (d : ℕ) → f s ≡ some d → length (stored_entries t f s) + shared t s d ≡ classes t
  stored-shared d e = omega (arith, stored-differ (some d) e, count_both (classes t) (λ c. eqb (next t s c) (next t d c)))
