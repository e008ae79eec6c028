-- All entries of an image, one after the other, and by state.
use mathlib.Core.Path.{◌≡◌, refl, sym, ap, ◌∙◌}
use mathlib.Core.Bool.{Bool}
use mathlib.Core.List.{List}
use Prim.Native.Nat.{ℕ, zero, suc, ◌+◌, ◌*◌, ◌<◌}
use lib.Dec.{leb}
use Rattle.paper.specs.Below.{any, sum, largest}
use Rattle.paper.specs.Words.{number16}
use Rattle.paper.specs.View.{any_entry}
use Rattle.paper.specs.Image.{states, entries, entries_at, count, entry_at, image_view}
use Rattle.paper.proofs.Below.{largest-any}
use Rattle.table.proofs.Rows.{any-behind}
use Rattle.image.specs.Laid.{Laid}

-- A test over the numbers below a sum is the test over each part of it.
any-parts : (n : ℕ) (f : ℕ → ℕ) (p : ℕ → Bool) → any (sum n f) p ≡ any n (λ s. any (f s) (λ j. p (sum s f + j)))
any-parts zero f p = refl
any-parts (suc n) f p = rw (any-behind (sum n f) (f n) p, any-parts n f p)

-- The next state of an entry, all entries counted from 0, is not below n.
abbrev pub next_high : List ℕ → ℕ → Bool
next_high b j = leb (states b) (number16 b (entries_at b + 4 * j + 2))

-- That of some entry is just where that of some entry of a state is.
pub next_same : (b : List ℕ) → Laid b → any (entries b) (next_high b) ≡ any_entry (image_view b) (λ s j. leb (states b) ((image_view b).entry_next s j))
unfolding entry_at
next_same b L = ap (λ (m : ℕ). any m (next_high b)) (sym L.counted) ∙ any-parts (states b) (count b) (next_high b)

-- The next state of an entry, the entries counted from the image's first.
abbrev pub next_of : List ℕ → ℕ → ℕ
next_of b j = number16 b (entries_at b + 4 * j + 2)

-- That of some entry is not below n just where the largest is not.
pub next-largest : (b : List ℕ) → Laid b → 0 < states b → leb (states b) (largest (entries b) (next_of b)) ≡ any_entry (image_view b) (λ s j. leb (states b) ((image_view b).entry_next s j))
next-largest b L h = largest-any (states b) h (entries b) (next_of b) ∙ next_same b L
