use Rattle.std.proofs.Common.{◌≡◌, ◌≤◌, refl, sym, ap, add-zero, arith}
use borrow.Author.Tests.{eq-eqb, ne_eqb}
use Rattle.paper.specs.Below.{bit}
use Rattle.facts.proofs.TableFacts.{accepted_table}
use Rattle.reduction.proofs.Numbered.{numbering_none, numbering_few, numbering_more, numbers_renumber}
use Rattle.reduce.proofs.Filled.{few_left, old_below}
use Rattle.reduce.proofs.left.left_of.Goals as goal
use Rattle.reduce.proofs.left.left_of.Goals.{At-loop-x, else-name-x, then-name-x}

-- So far at most x states are counted.
few : (c : At-loop-x) → c.loop-x.count ≤ c.loop-x.x
few c = let l = c.loop-x in numbering_few c.args.name l.x l.count l.rank l.old l.invariant

pub loop-x-init : goal.loop-x-init
loop-x-init c = numbering_none c.args.name _ _ refl refl

pub overflow_cast-rank : goal.overflow_cast-rank
overflow_cast-rank c = omega (arith, few (goal.at.overflow_cast-rank c).At-loop-x, c.args.table.now.table.counted.few_states)

pub offset_bounds-old-count : goal.offset_bounds-old-count
offset_bounds-old-count c = omega (arith, few (goal.at.offset_bounds-old-count c).At-loop-x, c.args.table.now.table.counted.few_states)

pub bounds-old-count : goal.bounds-old-count
bounds-old-count c = omega (arith, few (goal.at.bounds-old-count c).At-loop-x, c.args.table.now.table.counted.few_states)

pub overflow_add-count : goal.overflow_add-count
overflow_add-count c = omega (arith, few (goal.at.overflow_add-count c).At-loop-x, c.args.table.now.table.counted.few_states)

pub loop-x-preserved : goal.loop-x-preserved
loop-x-preserved c =
    let l = c.loop-x in
    let p = c.args.name in
    elim c.if-name-x.branch [
      | then-name-x w ↦ rw w.count-is (numbering_more p l.x l.count l.rank l.old 1 (omega arith) (sym (ap bit (eq-eqb _ _ w.if-name-x.true))) l.invariant)
      | else-name-x w ↦ let N = numbering_more p l.x l.count l.rank l.old 0 (omega arith) (sym (ap bit (ne_eqb _ _ w.if-name-x.false))) l.invariant in rw w.count-is (rw add-zero at N)
    ]

pub invariant_of-result : goal.invariant_of-result
invariant_of-result c =
    let a = c.args.table.now in
    let t = a.table.bytes.now in
    let A = accepted_table t a.accepted in
    let l = c.loop-x in
    let e : l.x ≡ a.table.n = omega arith in
    let R = numbers_renumber t A a.table.n a.table.counted.states_are c.args.name c.requires l.rank l.old l.count (rw e at l.invariant.so_far) in
    record { renumbers = R; few = few_left t c.args.name l.rank l.old l.count A R; inside = old_below t c.args.name l.rank l.old l.count A R }
