-- The loops' invariants: marked are the bytes of the first i strings, and of the next string the first so many.
use Rattle.std.proofs.Common.{◌≡◌, ℕ, ◌<◌, false, ◌||◌, eqb, length, get_or}
use Rattle.paper.specs.Below as below
use Rattle.paper.specs.Below.{any}
use Rattle.strings.proofs.Listed.{rule_at}
use Rattle.strings.proofs.Marked.{Marked}
use Rattle.classing.proofs.used_of.Given as goal

abbrev pub invariant-loop-i : goal.invariant-loop-i
invariant-loop-i l = (length l.used ≡ 256) × Marked (below.list l.i (rule_at l.list.bytes.now)) l.used

abbrev pub invariant-loop-x : goal.invariant-loop-x
invariant-loop-x l =
    (length l.used ≡ 256)
    × ((x : ℕ) → x < 256 → get_or l.used x false ≡ get_or l.initial.used x false || any l.x-index (λ j. eqb (get_or l.x-items j 0) x))
