-- The loop's invariant: none of the states so far shares fewer than two classes with its default.
use Rattle.std.proofs.Common.{◌≡◌, Bool, false, List, ℕ, get_or}
use Rattle.paper.specs.Below.{any}
use Rattle.paper.specs.Image.{default_from_of}
use Rattle.tally.specs.Kept.{shares_few_of}
use Rattle.tally.proofs.some_share_few.Given as goal

-- A state does.
abbrev pub few : List ℕ → List ℕ → ℕ → ℕ → Bool
few def counts k s = shares_few_of k (get_or counts s 0) (default_from_of (get_or def s 0))

abbrev pub invariant-loop-s : goal.invariant-loop-s
invariant-loop-s l = any l.s (few l.def l.counts l.k) ≡ false
