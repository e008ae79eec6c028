-- The levels mark the states that are reached, the labels name them first, and n rounds after them.
use Rattle.facts.proofs.TableFacts.{accepted_table}
use Rattle.reduce.proofs.Marks.{levels_mark}
use Rattle.reduce.proofs.names_of.Goals as goal

pub first_names-first-requires : goal.first_names-first-requires
first_names-first-requires c =
    let a = c.args.table.now in
    levels_mark a.table.bytes.now a.table.n c.levels_of-levels.result (accepted_table a.table.bytes.now a.accepted) a.table.counted.states_are c.levels_of-levels.ensures
