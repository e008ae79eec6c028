-- Where an input is cut.
use mathlib.Core.Path.{refl, sym, ◌∙◌}
use mathlib.Core.List.{List}
use Prim.Native.Nat.{ℕ, ◌≤◌}
use native.Mathlib.Omega.{arith}
use lib.ListN.{length, drop_of_length-le}
use lib.Seq.{take_all, take-length, drop-length}
use Rattle.serving.specs.Cut.{CutAt}

-- An end behind the input's own leaves the whole input.
pub cut_whole : (input : List ℕ) (end : ℕ) → length input ≤ end → CutAt input end (length input)
cut_whole input end h = record {
  inside = omega arith;
  before = take-length input ∙ sym (take_all end input h);
  behind = drop-length input ∙ sym (drop_of_length-le input h);
}

-- An end inside it is the place.
pub cut_inside : (input : List ℕ) (end : ℕ) → end ≤ length input → CutAt input end end
cut_inside input end h = record { inside = h; before = refl; behind = refl }
