-- Which defaults are worth their hops, and which stay.
use mathlib.Core.Path.{◌≡◌, refl, sym}
use mathlib.Core.Bool.{true, false, true≢false}
use mathlib.Core.Logic.{◌⊎◌, inl, inr}
use mathlib.Core.Option.{Option, none, some}
use mathlib.Core.List.{List}
use Prim.Native.Nat.{ℕ, ◌≤◌}
use borrow.Author.Tests.{le-leb, lt-leb, le-ltb, ltb-false, ltb-true}
use Rattle.paper.specs.Table.{shared}
use Rattle.paper.specs.Rewrite.{not_worth, kept}
use Rattle.paper.specs.Sentences.{NotWorth}
use Rattle.paper.proofs.Tests.{Holds, holds_less, none≢some}
use Rattle.paper.proofs.Chain.{some_same}

module _ (t : List ℕ) (s : ℕ) where
  -- A default is not worth its hops just where it is there and shares fewer than two classes with its state.
  pub holds_not_worth : (o : Option ℕ) → Holds (not_worth t s o) (NotWorth t s o)
  holds_not_worth none = (λ e. absurd (true≢false (sym e)), λ w. absurd (none≢some none w.0 refl w.1))
  holds_not_worth (some d) =
      let h = holds_less (shared t s d) 2 in
      (λ e. (d, refl, h.0 e), λ w. h.1 (rw (some_same w.1) w.2))

  -- Defaults of which each that is there shares two classes or more are worth their hops.
  pub worth : (o : Option ℕ) → ((d : ℕ) → o ≡ some d → 2 ≤ shared t s d) → not_worth t s o ≡ false
  worth none h = refl
  worth (some d) h = le-ltb (shared t s d) 2 (h d refl)

  -- A default that is worth its hops stays.
  pub kept_worth : (o : Option ℕ) → not_worth t s o ≡ false → kept t s o ≡ o
  kept_worth none e = refl
  kept_worth (some d) e = rw (le-leb 2 (shared t s d) (ltb-false (shared t s d) 2 e)) refl

  -- One that is not is dropped.
  pub kept_dropped : (o : Option ℕ) → not_worth t s o ≡ true → kept t s o ≡ none
  kept_dropped none e = refl
  kept_dropped (some d) e = rw (lt-leb 2 (shared t s d) (ltb-true (shared t s d) 2 e)) refl

  -- So each is dropped or stays.
  pub kept_either : (o : Option ℕ) → (kept t s o ≡ none) ⊎ (kept t s o ≡ o)
  kept_either o = go (not_worth t s o) refl
    where
      go : (b : _) → not_worth t s o ≡ b → (kept t s o ≡ none) ⊎ (kept t s o ≡ o)
      go true e = inl (kept_dropped o e)
      go false e = inr (kept_worth o e)

  -- What stays is worth its hops.
  pub kept_is_worth : (o : Option ℕ) → not_worth t s (kept t s o) ≡ false
  kept_is_worth o = go (not_worth t s o) refl
    where
      go : (b : _) → not_worth t s o ≡ b → not_worth t s (kept t s o) ≡ false
      go true e = rw (kept_dropped o e) refl
      go false e = rw (kept_worth o e) e
