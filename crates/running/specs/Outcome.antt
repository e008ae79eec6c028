-- What a run over a payload or its refusal says of what is answered and left.
use Rattle.std.specs.Prelude.{List, ℕ, Result, Ok, Err}
use Rattle.paper.specs.Operations.{Scanned}
use Rattle.paper.specs.Promises.{IsScanned}
use Rattle.answers.specs.Numbers.{number_of}
use Rattle.answers.specs.declared.Ran.{Ran}
use Rattle.answers.specs.declared.Refusal.{Refusal}

-- A run answers its four numbers, a refusal its own and zeros.
abbrev pub Outcome : Result Ran Refusal → Scanned → List ℕ → Type 0
Outcome (Ok run) o room = IsScanned o 0 run.taken run.state run.reports run.hops room
Outcome (Err refusal) o room = IsScanned o (number_of refusal) 0 0 0 0 room
