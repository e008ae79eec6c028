-- The array of levels has 65535 just for the states that are not reached.
use mathlib.Core.Path.{◌≡◌, refl, ap, ◌∙◌}
use mathlib.Core.Bool.{not}
use mathlib.Core.List.{List}
use mathlib.Core.Option.{Option, none, some}
use Prim.Native.Nat.{ℕ}
use native.Mathlib.Omega.{arith}
use lib.Dec.{eqb}
use borrow.Author.Tests.{ne_eqb}
use Rattle.paper.specs.Below.{given, or}
use Rattle.paper.specs.Table.{states}
use Rattle.paper.specs.FallBack.{level}
use Rattle.facts.proofs.TableFacts.{AcceptedTable}
use Rattle.levels.proofs.Levels.{level_below}
use Rattle.toward.specs.Marked.{LevelsIn}
use Rattle.reduction.specs.Named.{MarksReached}

pub levels_mark : (t : List ℕ) (n : ℕ) (array : List ℕ) → AcceptedTable t → n ≡ states t → LevelsIn t n array → MarksReached t array
levels_mark t n array A N L x h = ap (λ (m : ℕ). eqb m 65535) (L x (omega arith)) ∙ go (level t x) refl
  where
    go : (o : Option ℕ) → level t x ≡ o → eqb (or (level t x) 65535) 65535 ≡ not (given (level t x))
    go none q = rw q refl
    go (some l) q = rw q (ne_eqb l 65535 (λ w. omega (arith, level_below t x l h q, A.few_states)))
