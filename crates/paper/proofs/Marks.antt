-- Marks for the numbers below 256 that a function takes, made place by place.
use mathlib.Core.Path.{◌≡◌, refl, sym}
use mathlib.Core.Bool.{Bool, true, false, ◌||◌, or-true, or-false}
use mathlib.Core.List.{List}
use Prim.Native.Nat.{ℕ, ◌+◌, ◌<◌}
use native.Mathlib.Numerals.{add-one}
use native.Mathlib.Decide.{ℕ_discrete}
use native.Mathlib.Omega.{arith}
use lib.Dec.{eqb}
use lib.ListN.{length, get_or, set, replicate, get_or-replicate}
use lib.Seq.{get_or-set_same, get_or-set_other}
use borrow.Author.Tests.{eq-eqb, ne_eqb}
use Rattle.paper.specs.Below.{any}

-- A number below 256 is marked just where one of so many places has it.
abbrev pub Seen : List Bool → (ℕ → ℕ) → ℕ → Type 0
Seen marks at places = (c : ℕ) → c < 256 → get_or marks c false ≡ any places (λ x. eqb (at x) c)

-- No marks are those of no places.
pub seen_nothing : (at : ℕ → ℕ) → Seen (replicate 256 false) at 0
seen_nothing at c h = get_or-replicate 256 c false false h

-- With the mark of the next place's number they are those of one place more.
pub seen_more : (marks : List Bool) (at : ℕ → ℕ) (x v : ℕ) → length marks ≡ 256 → v ≡ at x → v < 256 → Seen marks at x
    → Seen (set marks v true) at (x + 1)
seen_more marks at x v e w l seen c h = rw (add-one x, ← seen c h, ← w) (go (ℕ_discrete c v))
  where
    go : Dec (c ≡ v) → get_or (set marks v true) c false ≡ get_or marks c false || eqb v c
    go (yes q) = rw (q, get_or-set_same marks v true false (omega arith), eq-eqb v v refl, or-true)
    go (no q) = rw (get_or-set_other marks v c true false q, ne_eqb v c (λ w. q (sym w)), or-false)
