use Rattle.std.proofs.Common.{◌≡◌, ◌<◌, arith}
use Rattle.paper.specs.Table.{classes}
use Rattle.facts.proofs.TableFacts.{accepted_table}
use Rattle.toward.proofs.Marks.{row_hit, row_miss}
use Rattle.toward.proofs.mark_row.Goals as goal
use Rattle.toward.proofs.mark_row.Goals.{After-next-x, else-levels-x, then-levels-x}

-- The next state has a place in the array.
small : (c : After-next-x) → c.next-x.result < 512
small c =
    let t = c.args.t.now.table in
    let A = accepted_table t.bytes.now c.args.t.now.accepted in
    omega (arith, c.next-x.ensures, A.few_states, A.inside c.args.s c.loop-c.c (omega (arith, t.counted.states_are)) (omega (arith, t.counted.classes_are, c.loop-c-test.true)))

pub bounds-levels-x : goal.bounds-levels-x
bounds-levels-x c = small (goal.at.bounds-levels-x c).After-next-x

pub loop-c-preserved : goal.loop-c-preserved
loop-c-preserved c =
    let l = c.loop-c in
    let a = c.args in
    let t = a.t.now.table.bytes.now in
    let x = c.next-x in
    elim c.if-levels-x.branch [
      | then-levels-x w ↦ rw w.levels-is (row_hit t a.levels.now l.levels a.s l.c a.mark x.result x.ensures l.invariant (small (goal.at.loop-c-preserved c).After-next-x) w.if-levels-x.true)
      | else-levels-x w ↦ rw w.levels-is (row_miss t a.levels.now l.levels a.s l.c a.mark x.result x.ensures l.invariant w.if-levels-x.false)
    ]

pub returns : goal.returns
returns c =
    let e : c.loop-c.c ≡ classes c.args.t.now.table.bytes.now = omega (arith, c.args.t.now.table.counted.classes_are) in
    rw e at c.loop-c.invariant
