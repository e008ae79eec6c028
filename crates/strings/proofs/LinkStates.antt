-- Failure links and rows by the numbers of states, as arrays hold them.
use mathlib.Core.Path.{◌≡◌, sym, ap, ◌∙◌}
use mathlib.Core.Bool.{true, false}
use mathlib.Core.List.{List, [], ◌∷◌, ◌++◌}
use Prim.Native.Nat.{ℕ, ◌<◌}
use native.Mathlib.Omega.{arith}
use lib.ListN.{length, get_or}
use Rattle.paper.specs.Strings.{Rule, among, number_of, names}
use Rattle.strings.proofs.Among.{number_of_below}
use Rattle.strings.proofs.Names.{name_of_number, empty_first, empty_name}
use Rattle.strings.proofs.Endings.{next}
use Rattle.strings.proofs.Stands.{closed, goes, longest_is_name}
use Rattle.strings.proofs.Links.{fail, fail_among, fail_shorter, fail_next, next_there, next-stays, next-falls}

module _ (rs : List Rule) where
  -- The name of a state.
  abbrev pub name : ℕ → List ℕ
  name s = get_or (names rs) s []

  -- The failure link of a state.
  abbrev pub link : ℕ → ℕ
  link s = number_of (fail (names rs) (name s)) (names rs)

  -- The state has a child on the byte: its name with the byte is a name.
  abbrev pub HasChild : ℕ → ℕ → Type 0
  HasChild s a = among (name s ++ (a ∷ [])) (names rs) ≡ true

  -- The child of a state on a byte.
  abbrev pub child : ℕ → ℕ → ℕ
  child s a = number_of (name s ++ (a ∷ [])) (names rs)

  -- A child is a state, and its name is that of its parent with the byte.
  pub child_name : (s a : ℕ) → HasChild s a → (child s a < length (names rs)) × (name (child s a) ≡ name s ++ (a ∷ []))
  child_name s a h = (number_of_below (name s ++ (a ∷ [])) (names rs) h, name_of_number rs (name s ++ (a ∷ [])) h)

  -- A byte leads to the child where there is one.
  pub goes_child : (s a : ℕ) → HasChild s a → goes rs s a ≡ child s a
  goes_child s a h = ap (λ (w : List ℕ). number_of w (names rs)) (next_there (names rs) (name s) a h)

  -- From state 0 a byte without child leads to state 0.
  pub goes_empty : (a : ℕ) → among (a ∷ []) (names rs) ≡ false → goes rs 0 a ≡ 0
  goes_empty a h =
      ap (λ (w : List ℕ). number_of (next (names rs) w a) (names rs)) (empty_first rs).0
      ∙ ap (λ (w : List ℕ). number_of w (names rs)) (next-stays (names rs) a h)
      ∙ (empty_first rs).1

  module _ (some : 0 < length rs) where
    -- A link is a state, and its name is the failure link of the name.
    pub link_name : (s : ℕ) → (link s < length (names rs)) × (name (link s) ≡ fail (names rs) (name s))
    link_name s =
        let a : among (fail (names rs) (name s)) (names rs) ≡ true = fail_among (names rs) (empty_name rs some) (name s) in
        (number_of_below (fail (names rs) (name s)) (names rs) a, name_of_number rs (fail (names rs) (name s)) a)

    -- The name of a link is shorter.
    pub link_shorter : (s : ℕ) → 0 < length (name s) → length (name (link s)) < length (name s)
    link_shorter s h = omega (arith, ap length (link_name s).1, fail_shorter (names rs) (name s) h)

    -- Every step leads to a state.
    pub goes_below : (s a : ℕ) → goes rs s a < length (names rs)
    goes_below s a = number_of_below (next (names rs) (name s) a) (names rs) (longest_is_name rs some (name s ++ (a ∷ [])))

    -- A byte without child leads where it leads from the link.
    pub goes_falls : (s a : ℕ) → 0 < length (name s) → among (name s ++ (a ∷ [])) (names rs) ≡ false → goes rs s a ≡ goes rs (link s) a
    goes_falls s a h n =
        ap (λ (w : List ℕ). number_of w (names rs)) (next-falls (names rs) (closed rs) (name s) a h n)
        ∙ ap (λ (w : List ℕ). number_of (next (names rs) w a) (names rs)) (sym (link_name s).1)

    -- The link of a child is where the byte leads from the link of its parent.
    pub link_child : (s a : ℕ) → 0 < length (name s) → HasChild s a → link (child s a) ≡ goes rs (link s) a
    link_child s a h c =
        ap (λ (w : List ℕ). number_of (fail (names rs) w) (names rs)) (child_name s a c).1
        ∙ ap (λ (w : List ℕ). number_of w (names rs)) (fail_next (names rs) (closed rs) (name s) a h)
        ∙ ap (λ (w : List ℕ). number_of (next (names rs) w a) (names rs)) (sym (link_name s).1)

    -- The link of a child of state 0 is state 0.
    pub link_child_empty : (a : ℕ) → HasChild 0 a → link (child 0 a) ≡ 0
    link_child_empty a c =
        ap (λ (w : List ℕ). number_of (fail (names rs) w) (names rs)) ((child_name 0 a c).1 ∙ ap (λ (w : List ℕ). w ++ (a ∷ [])) (empty_first rs).0)
        ∙ (empty_first rs).1
