-- The loop's invariant: each of the first c classes is marked, so that some byte has it.
use Rattle.std.proofs.Common.{◌≡◌, Bool, false, not, List, ℕ, ◌+◌, eqb}
use Rattle.paper.specs.Below.{any}
use Rattle.paper.specs.Words.{byte_at}
use Rattle.table.proofs.class_missing.Given as goal

-- No byte has the class c.
abbrev pub missing : List ℕ → ℕ → ℕ → Bool
missing b at c = not (any 256 (λ x. eqb (byte_at b (at + x)) c))

abbrev pub invariant-loop-c : goal.invariant-loop-c
invariant-loop-c l = any l.c (missing l.b l.at) ≡ false
