use Rattle.std.proofs.Common.{◌≡◌, ℕ, ◌<◌, List, Bool, true, false, get_or, refl, sym, ◌∙◌, arith}
use Rattle.std.proofs.lemmas.Bool.{false≢true}
use Rattle.paper.specs.Table.{edition, states}
use Rattle.paper.specs.FallBack.{levels}
use Rattle.paper.specs.Reduce.{reached}
use Rattle.facts.proofs.TableFacts.{accepted_table}
use Rattle.labels.specs.Tags.{Firsts}
use Rattle.reduction.specs.Named.{first_name_of}
use Rattle.reduction.proofs.FirstNames.{first_named, first_not}
use Rattle.naming.specs.Ordered.{numbers}
use Rattle.naming.specs.Heads.{Names, Reached}
use Rattle.naming.proofs.Labels.{first_name}
use Rattle.naming.proofs.first_names.Goals as goal
use Rattle.naming.proofs.first_names.Goals.{After-firsts-firsts}

-- The array has the first label of each state.
firsts_are : (c : After-firsts-firsts) → let t = c.args.table.now.table.bytes.now in Firsts t 262 (states t) (edition t) c.firsts-firsts.result
firsts_are c =
    let T = c.args.table.now.table in
    rw (← T.of_edition, ← T.counted.states_are) c.firsts-firsts.ensures

pub firsts-firsts-requires : goal.firsts-firsts-requires
firsts-firsts-requires c = let T = c.args.table.now.table in (T.counted.few_states, omega (arith, T.counted.long), rw (T.of_edition, T.counted.states_are) T.counted.few_labels)

pub returns : goal.returns
returns c = first_named t r (λ x h. first x h (reached t (levels t) x) refl)
  where
    t : List ℕ
    t = c.args.table.now.table.bytes.now

    r : List ℕ
    r = c.names.result

    named : Names (numbers t) (Reached t) (states t) r
    named = rw c.args.table.now.table.counted.states_are at c.names.ensures

    first : (x : ℕ) → x < states t → (b : Bool) → reached t (levels t) x ≡ b → get_or r x 0 ≡ first_name_of t x
    first x h true e =
        first_name t c.firsts-firsts.result (firsts_are (goal.at.returns c).After-firsts-firsts) (accepted_table t c.args.table.now.accepted) x (get_or r x 0) h e (named.firsts x h e)
    first x h false e = named.others x h (λ w. false≢true (sym e ∙ w)) ∙ first_not t x e
