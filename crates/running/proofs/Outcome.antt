-- The five numbers that stand for a run or its refusal are those of its outcome.
use mathlib.Core.List.{List}
use Prim.Native.Nat.{ℕ}
use Rattle.std.specs.Prelude.{Result, Ok, Err}
use Rattle.paper.specs.Operations.{Scanned}
use Rattle.paper.specs.Promises.{IsScanned}
use Rattle.answers.specs.Numbers.{Scans}
use Rattle.answers.specs.declared.Ran.{Ran}
use Rattle.answers.specs.declared.Refusal.{Refusal}
use Rattle.running.specs.Outcome.{Outcome}

pub outcome_scanned : (answer : Result Ran Refusal) (o : Scanned) (room : List ℕ) (number taken state reports hops : ℕ) → Outcome answer o room → Scans answer number taken state reports hops
    → IsScanned o number taken state reports hops room
outcome_scanned (Ok run) o room number taken state reports hops h (a, b, c, d, e) = rw (a, b, c, d, e) h
outcome_scanned (Err refusal) o room number taken state reports hops h (a, b, c, d, e) = rw (a, b, c, d, e) h
