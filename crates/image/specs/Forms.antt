-- What the code's options and records stand for: the paper's number and value for each case.
use Rattle.std.specs.Prelude as code
use Rattle.std.specs.Prelude.{Bool, true, false, List, ℕ, ◌+◌, ◌*◌, ◌/◌, eqb, length, None, Some}
use Rattle.std.proofs.Math.Option.{Option, none, some}
use Rattle.paper.specs.Below.{first_of, when}
use Rattle.paper.specs.Words.{number16}
use Rattle.image.specs.declared.Record.{Record}

-- Where a state falls: to a state, or nowhere, as it is a root.
abbrev pub Fallback : Type 0
Fallback = code.Option ℕ

-- What one step of look-up finds: a stored target, or nothing stored here.
abbrev pub Step : Type 0
Step = code.Option ℕ

-- The paper's number for where a state falls: 65535 for a root.
abbrev pub number_of : Fallback → ℕ
number_of None = 65535
number_of (Some s) = s

-- The paper's default for it: none for a root.
abbrev pub default_of : Fallback → Option ℕ
default_of None = none
default_of (Some s) = some s

-- The first of two cases where the test passes, else the second.
abbrev pub either_fallback : Bool → Fallback → Fallback → Fallback
either_fallback true a b = a
either_fallback false a b = b

-- Where a state falls, from the number that stands in its record.
unfoldable pub fallback_from : ℕ → Fallback
fallback_from d = either_fallback (eqb d 65535) None (Some d)

-- The record at a place.
abbrev pub record_at_of : List ℕ → ℕ → Record
record_at_of b at = record { fallback = fallback_from (number16 b at); count = number16 b (at + 2) }

-- A stored target, or nothing stored here, as one step answers it.
abbrev pub step_of : Option ℕ → Step
step_of none = None
step_of (some t) = Some t

-- The target that a row of entries, as a part of an image, stores for a class.
unfoldable pub stored_in_of : List ℕ → ℕ → Option ℕ
stored_in_of part c = first_of (length part / 4) (λ j. when (eqb (number16 part (4 * j)) c) (number16 part (4 * j + 2)))
