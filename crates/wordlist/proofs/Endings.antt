-- Whether one list of bytes ends another, decided from the last bytes on.
use Rattle.std.proofs.Common.{◌≡◌, ℕ, suc, ◌+◌, ◌<◌, Bool, true, false, ◌&&◌, List, length, get_or, take, eqb, sym, ap, ◌∙◌, arith}
use mathlib.Core.Path.{ap₂}
use lib.Seq.{take-suc, take_all}
use borrow.Author.Tests.{eq-eqb, ne_eqb}
use Rattle.paper.specs.Strings.{ends}
use Rattle.paper.proofs.Below.{bool_false}
use Rattle.strings.proofs.Longest.{ends_ending, ending_le}
use Rattle.strings.proofs.Snoc.{ends_snoc, ends_empty}

-- A longer list ends no shorter one.
pub ends_longer : (v w : List ℕ) → length w < length v → false ≡ ends v w
ends_longer v w h = sym (bool_false (ends v w) (λ e. absurd (omega (arith, ending_le v w (ends_ending v w e)))))

module _ (v w : List ℕ) (gap : ℕ) where
  -- The test of the first i bytes of the one, and of `gap` and i of the other.
  abbrev pub rest : ℕ → Bool
  rest i = ends (take i v) (take (gap + i) w)

  -- At first all bytes are left,
  pub rest_all : gap + length v ≡ length w → ends v w ≡ rest (length v)
  rest_all e = sym (ap₂ ends (take_all (length v) v (omega arith)) (take_all (gap + length v) w (omega arith)))

  -- and with none left it ends.
  pub rest_none : (i : ℕ) → i ≡ 0 → rest i ≡ true
  rest_none i e = rw e (ends_empty (take (gap + 0) w))

  module _ (j i : ℕ) (e : j ≡ suc i) (hv : i < length v) (hw : gap + i < length w) where
    -- The last bytes decide, and then the rest:
    step : rest j ≡ eqb (get_or v i 0) (get_or w (gap + i) 0) && rest i
    step =
        let q : gap + j ≡ suc (gap + i) = omega arith in
        ap₂ ends (ap (λ (m : ℕ). take m v) e ∙ take-suc v i 0 hv) (ap (λ (m : ℕ). take m w) q ∙ take-suc w (gap + i) 0 hw)
        ∙ ends_snoc (take i v) (take (gap + i) w) (get_or v i 0) (get_or w (gap + i) 0)

    -- bytes that differ end it,
    pub rest_differ : ¬ (get_or v i 0 ≡ get_or w (gap + i) 0) → rest j ≡ false
    rest_differ d = step ∙ ap (λ (t : Bool). t && rest i) (ne_eqb (get_or v i 0) (get_or w (gap + i) 0) d)

    -- and bytes that are the same leave the rest.
    pub rest_turn : get_or v i 0 ≡ get_or w (gap + i) 0 → rest j ≡ rest i
    rest_turn d = step ∙ ap (λ (t : Bool). t && rest i) (eq-eqb (get_or v i 0) (get_or w (gap + i) 0) d)
