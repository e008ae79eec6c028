-- Ground 9 at the entries of a state, as a row and in the view.
use mathlib.Core.Path.{◌≡◌, refl, ap, ap₂, ◌∙◌}
use mathlib.Core.Bool.{Bool, true, false}
use mathlib.Core.List.{List}
use Prim.Native.Nat.{ℕ, zero, suc, ◌*◌, ◌-◌, ◌/◌, ◌≤◌, ◌<◌}
use native.Mathlib.Omega.{arith}
use lib.Dec.{leb}
use lib.ListN.{length}
use borrow.Author.Tests.{le-leb, lt-leb}
use Rattle.paper.specs.Below.{any}
use Rattle.paper.specs.Words.{number16}
use Rattle.paper.specs.View.{entry_class_bad}
use Rattle.paper.specs.Image.{states, classes, count, entries_part_of, image_view}
use Rattle.paper.proofs.Below.{any_same}
use Rattle.image.specs.Laid.{Laid}
use Rattle.image.proofs.Parts.{part_length, part_class}
use Rattle.contents.specs.Tests.{falls, class_wrong}

module _ (k : ℕ) (row : List ℕ) (j c : ℕ) (read : c ≡ number16 row (4 * j)) where
  -- A class not below k is wrong.
  pub class_high_lem : k ≤ c → true ≡ class_wrong k row j
  class_high_lem h = rw (le-leb k (number16 row (4 * j)) (omega arith))

  -- A class below k of a first entry is not.
  pub class_first : c < k → j ≡ 0 → false ≡ class_wrong k row j
  class_first h e = rw (lt-leb k (number16 row (4 * j)) (omega arith), e)

  -- That of a later entry is wrong just where it is not above the one before.
  pub class_later : c < k → ¬ (j ≡ 0) → (d : ℕ) → d ≡ number16 row (4 * (j - 1)) → leb c d ≡ class_wrong k row j
  class_later h n d e = rw (lt-leb k (number16 row (4 * j)) (omega arith)) (go j n read e)
    where
      go : (i : ℕ) → ¬ (i ≡ 0) → c ≡ number16 row (4 * i) → d ≡ number16 row (4 * (i - 1)) → leb c d ≡ falls row i
      go zero n q w = absurd (n refl)
      go (suc i) n q w = let x : suc i - 1 ≡ i = omega arith in ap₂ leb q (w ∙ ap (λ (y : ℕ). number16 row (4 * y)) x)

-- An entry of a state's part is wrong just where the state's entry is.
entry_same : (b : List ℕ) (s j : ℕ) → j < count b s → class_wrong (classes b) (entries_part_of b s) j ≡ entry_class_bad (image_view b) s j
entry_same b s zero h = rw (part_class b s 0 h)
entry_same b s (suc j) h =
    let h₀ : j < count b s = omega arith in rw (part_class b s (suc j) h, part_class b s j h₀)

-- So is some entry.
row_same : (b : List ℕ) → Laid b → (s : ℕ) → s < states b
    → any (length (entries_part_of b s) / 4) (class_wrong (classes b) (entries_part_of b s)) ≡ any (count b s) (entry_class_bad (image_view b) s)
row_same b L s hs =
    let size : length (entries_part_of b s) / 4 ≡ count b s = omega (arith, part_length b L s hs) in
    rw size (any_same (count b s) (class_wrong (classes b) (entries_part_of b s)) (entry_class_bad (image_view b) s) (entry_same b s))

-- So what is answered of a state's part.
pub row_read : (b : List ℕ) → Laid b → (s : ℕ) → s < states b → (k : ℕ) → k ≡ classes b → (row : List ℕ) (answer : Bool) → row ≡ entries_part_of b s
    → answer ≡ any (length row / 4) (class_wrong k row) → answer ≡ any (count b s) (entry_class_bad (image_view b) s)
row_read b L s hs k ek row answer er ea = ea ∙ rw (er, ek) (row_same b L s hs)
