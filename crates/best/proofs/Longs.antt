-- The longest path of each state's tree, set down from the place of the tree in one pass over the states.
use mathlib.Core.Path.{◌≡◌, refl}
use mathlib.Core.List.{List}
use Prim.Native.Nat.{ℕ, ◌+◌, ◌<◌}
use lib.ListN.{length, get_or, set}
use Rattle.joining.specs.Filled.{Filled}
use Rattle.joining.proofs.Filled.{filled-stored, filled-kept}

module _ (far tree : List ℕ) where
  -- The number at its tree's place stands at the place of each of the first i states.
  abbrev pub Spread : List ℕ → List ℕ → List ℕ → ℕ → Type 0
  Spread most old long i = Filled (λ x a. get_or tree x 0 < 512 → a ≡ get_or most (get_or tree x 0) 0) old long i

  module _ (most old long : List ℕ) (i : ℕ) (S : Spread most old long i) where
    -- One state more.
    pub spread_stored : i < length long → Spread most old (set long i (get_or most (get_or tree i 0) 0)) (i + 1)
    spread_stored l = filled-stored _ old long i S (get_or most (get_or tree i 0) 0) l (λ k. refl)

    -- Its tree has no place.
    pub spread_kept : ¬ (get_or tree i 0 < 512) → Spread most old long (i + 1)
    spread_kept high = filled-kept _ old long i S (λ k. absurd (high k))
