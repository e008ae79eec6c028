-- Each way out of strings: refused on one of its first three grounds, where those before it do not apply, or left to the last two.
use mathlib.Core.Path.{◌≡◌, refl}
use mathlib.Core.Bool.{true, false}
use mathlib.Core.List.{List, [], ◌∷◌}
use Prim.Native.Nat.{ℕ}
use native.Mathlib.Omega.{arith}
use lib.Dec.{ltb}
use lib.ListN.{length}
use Rattle.paper.specs.Refusals.{first}
use Rattle.paper.specs.Strings.{list_bad_of, list_labels_bad, rules, names, too_many_labels, tabulated}
use Rattle.paper.specs.Operations.{building, strings_grounds, strings}
use Rattle.paper.specs.Promises.{IsBuilt, Tabulates}
use Rattle.paper.proofs.Refused.{refused}

module _ (b room : List ℕ) where
  -- 26.
  pub shape_refuses : list_bad_of b ≡ true → Tabulates b room 26 0 room
  unfolding strings strings_grounds
  shape_refuses g = refused 26 (first (strings_grounds b (length room))) (tabulated b) room (rw g refl) (λ z. absurd (omega arith))

  module _ (g₂₆ : list_bad_of b ≡ false) where
    -- 27.
    pub labels_refuse : list_labels_bad b ≡ true → Tabulates b room 27 0 room
    unfolding strings strings_grounds
    labels_refuse g = refused 27 (first (strings_grounds b (length room))) (tabulated b) room (rw (g₂₆, g) refl) (λ z. absurd (omega arith))

    module _ (g₂₇ : list_labels_bad b ≡ false) where
      -- 19.
      pub states_refuse : too_many_labels (rules b) ≡ true → Tabulates b room 19 0 room
      unfolding strings strings_grounds
      states_refuse g = refused 19 (first (strings_grounds b (length room))) (tabulated b) room (rw (g₂₆, g₂₇, g) refl) (λ z. absurd (omega arith))

      -- 28 and 16 are left.
      pub lists_pass : too_many_labels (rules b) ≡ false → (number l : ℕ) (after : List ℕ)
          → IsBuilt (building (first ((28, ltb 512 (length (names (rules b)))) ∷ (16, ltb (length room) (length (tabulated b))) ∷ [])) (tabulated b) room) number l after
          → Tabulates b room number l after
      unfolding strings strings_grounds
      lists_pass g number l after B = rw (g₂₆, g₂₇, g) B
