use Rattle.std.proofs.Common.{◌≡◌, List, length, refl, sym, ◌∙◌, arith}
use lib.ListN.{get_or-replicate}
use Rattle.paper.specs.Strings as given
use Rattle.paper.specs.Strings.{Rule}
use Rattle.paper.proofs.Filled.{Filled}
use Rattle.strings.proofs.Classes.{classes_most}
use Rattle.strings.proofs.Marked.{Marked, class_count}
use Rattle.strings.proofs.Spread.{classed_columns}
use Rattle.classing.proofs.Turns.{Noted, spare_is, few_so_far, class_small, noted_used, noted_unused}
use Rattle.classing.proofs.Classes.of_used.Goals as goal
use Rattle.classing.proofs.Classes.of_used.Goals.{After-loop-x, In-loop-x, then-used-x, else-used-x}

-- What is noted for the list that the caller has.
noted : (c : In-loop-x) → Noted c.requires.0 c.loop-x.of c.loop-x.count c.loop-x.x
noted c = c.loop-x.invariant c.requires.0 c.requires.1

pub loop-x-init : goal.loop-x-init
loop-x-init c = λ rs M.
    let l : length c.args.used.now ≡ 256 = omega arith in
    record {
      room = refl;
      next = c.from-spare.ensures ∙ spare_is rs c.args.used.now c.contains.result l M c.contains.ensures.cases ∙ omega arith;
      noted = λ q h. absurd (omega arith);
      rest = λ q l h. get_or-replicate 256 q 0 0 h;
    }

pub overflow_cast-of : goal.overflow_cast-of
overflow_cast-of c =
    omega (arith, class_small c.requires.0 c.loop-x.of c.loop-x.count c.loop-x.x c.loop-x-test.true (noted (goal.at.overflow_cast-of c).In-loop-x) (sym (c.requires.1 c.loop-x.x c.loop-x-test.true) ∙ c.if-used-x.true))

pub overflow_add-count : goal.overflow_add-count
overflow_add-count c =
    omega (arith, few_so_far c.requires.0 c.loop-x.of c.loop-x.count c.loop-x.x c.loop-x-test.true (noted (goal.at.overflow_add-count c).In-loop-x))

pub loop-x-preserved : goal.loop-x-preserved
loop-x-preserved c = λ rs M.
    let x = c.loop-x.x in
    let h = c.loop-x-test.true in
    let u = sym (M x h) in
    let N = c.loop-x.invariant rs M in
    elim c.if-used-x.branch [
      | then-used-x w ↦ rw (w.of-is, w.count-is) (noted_used rs c.loop-x.of c.loop-x.count x h N (u ∙ w.if-used-x.true))
      | else-used-x w ↦ rw (w.of-is, w.count-is) (noted_unused rs c.loop-x.of c.loop-x.count x h N (u ∙ w.if-used-x.false))
    ]

-- All bytes have their classes.
all : (c : After-loop-x) (rs : List Rule) → Marked rs c.args.used.now → (c.loop-x.count ≡ given.classes rs) × Filled (given.class_of rs) c.loop-x.of 256
all c rs M =
    let N = c.loop-x.invariant rs M in
    let e : c.loop-x.x ≡ 256 = omega arith in
    (class_count rs c.loop-x.x c.loop-x.count e N.next, rw e at N.noted)

pub invariant_of-result : goal.invariant_of-result
invariant_of-result c =
    let rs = c.requires.0 in
    let (p, F) = all (goal.at.invariant_of-result c).After-loop-x rs c.requires.1 in
    record { few = omega (arith, classes_most rs); columns = rw p (classed_columns rs c.loop-x.of F) }

pub returns : goal.returns
returns c = all (goal.at.returns c).After-loop-x
