-- What the arrays become, step by step.
use mathlib.Core.List.{List}
use Prim.Native.Nat.{ℕ}
use Rattle.paper.specs.Forest.{Trees}
use Rattle.joining.specs.Held.{Whole}
use Rattle.greedy.specs.Good.{Becomes}

-- Before any step they hold the trees that they held.
pub becomes_same : (n D : ℕ) (far parent tree : List ℕ) → Whole far parent tree → Becomes n D (λ F. F) far parent tree far parent tree
becomes_same n D far parent tree whole = record { whole = whole; good = λ F G. G }

-- After two steps they hold what the second makes of what the first makes.
pub becomes_then : (n D : ℕ) (first second : Trees → Trees) (far₀ parent₀ tree₀ far parent tree far' parent' tree' : List ℕ)
    → Becomes n D first far₀ parent₀ tree₀ far parent tree → Becomes n D second far parent tree far' parent' tree'
    → Becomes n D (λ F. second (first F)) far₀ parent₀ tree₀ far' parent' tree'
becomes_then n D first second far₀ parent₀ tree₀ far parent tree far' parent' tree' A B =
    record { whole = B.whole; good = λ F G. B.good (first F) (A.good F G) }
