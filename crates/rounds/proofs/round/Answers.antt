use Rattle.std.proofs.Common.{◌≡◌, ℕ, ◌<◌, List, get_or, ◌∙◌}
use native.Mathlib.Decide.{ℕ_discrete}
use Rattle.naming.specs.Heads.{Names}
use Rattle.paper.specs.Table.{states}
use Rattle.facts.proofs.TableFacts.{accepted_table}
use Rattle.reduction.specs.Named.{name_after_of}
use Rattle.reduction.proofs.Rounds.{round_names, after_none}
use Rattle.rounds.specs.Steps.{steps, HasName}
use Rattle.rounds.proofs.Steps.{headed, first_after}
use Rattle.rounds.proofs.round.Goals as goal

pub invariant_of-states : goal.invariant_of-states
invariant_of-states c =
    let a = c.args.table.now in
    record { headed = headed a.table.bytes.now c.args.name.now (accepted_table a.table.bytes.now a.accepted) c.requires }

pub returns : goal.returns
returns c = round_names t p (accepted_table t c.args.table.now.accepted) r (λ x h. after x h (ℕ_discrete (get_or p x 0) 65535))
  where
    t : List ℕ
    t = c.args.table.now.table.bytes.now

    p : List ℕ
    p = c.args.name.now

    r : List ℕ
    r = c.names.result

    named : Names (steps t p) (HasName p) (states t) r
    named = rw c.args.table.now.table.counted.states_are at c.names.ensures

    after : (x : ℕ) → x < states t → Dec (get_or p x 0 ≡ 65535) → get_or r x 0 ≡ name_after_of t p x
    after x h (yes e) = named.others x h (λ n. n e) ∙ after_none t p x e
    after x h (no n) = first_after t p x (get_or r x 0) n (named.firsts x h n)
