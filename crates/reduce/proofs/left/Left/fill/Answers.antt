-- The start's new number stands at its name; the front, the labels and the rows stand one behind the other.
use Rattle.std.proofs.Common.{◌≡◌, ◌<◌, get_or, arith}
use Rattle.paper.specs.Table.{start}
use Rattle.paper.specs.FallBack.{levels}
use Rattle.facts.proofs.TableFacts.{accepted_table}
use Rattle.reduction.specs.Left.{new}
use Rattle.reduction.proofs.Reach.{reached-start}
use Rattle.reduce.proofs.Filled.{reduced-filled}
use Rattle.reduce.proofs.left.Left.fill.Goals as goal
use Rattle.reduce.proofs.left.Left.fill.Goals.{After-get16-first}

-- The start has a name, at which its new number stands.
begins : (c : After-get16-first) → let s = c.args.self.now in let t = s.table.table.bytes.now in let p = get_or s.name c.get16-first.result 0 in
    (c.get16-first.result < 512) × (p < 512) × (get_or s.rank p 0 ≡ new t (levels t) (start t))
begins c =
    let s = c.args.self.now in
    let t = s.table.table.bytes.now in
    let A = accepted_table t s.table.accepted in
    let R = s.renumbers in
    let e = reached-start t A in
    rw c.get16-first.ensures (omega (arith, A.begins, A.few_states), omega (arith, R.names_below (start t) e, A.few_states), R.new_are (start t) e)

pub bounds-self-first : goal.bounds-self-first
bounds-self-first c = (begins (goal.at.bounds-self-first c).After-get16-first).0

pub bounds-self-p : goal.bounds-self-p
bounds-self-p c = (begins (goal.at.bounds-self-p c).After-get16-first).1

pub returns : goal.returns
returns c =
    let s = c.args.self.now in
    let t = s.table.table.bytes.now in
    reduced-filled t s.name s.rank s.old s.count (accepted_table t s.table.accepted) s.renumbers s.table.table.k c.args.held s.table.table.counted.classes_are c.requires.0 _ c.args.room.now _ _ _
    (begins (goal.at.returns c).After-get16-first).2 c.requires.1 c.put_front.ensures c.put_labels.ensures c.put_rows.ensures
