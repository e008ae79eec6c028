use Rattle.std.proofs.Common.{◌≡◌, ℕ, ◌+◌, ◌*◌, ◌/◌, ◌≤◌, ◌<◌, length, sym, ap, ◌∙◌, arith, Some}
use Rattle.paper.specs.Words.{number16}
use Rattle.image.specs.Forms.{step_of}
use Rattle.image.proofs.Rows.{row_at_lem, under_to, under_over, under_all}
use Rattle.image.proofs.search.Goals as goal
use Rattle.image.proofs.search.Goals.{After-get16-c}

-- The place before the row's end is that of an entry.
there : (c : After-get16-c) → c.loop-at.invariant.entry < length c.args.row.now / 4
there c = omega (arith, c.loop-at-test.true, c.loop-at.invariant.place, c.requires.sized)

-- What is read there is its class.
class_is : (c : After-get16-c) → c.get16-c.result ≡ number16 c.args.row.now (4 * c.loop-at.invariant.entry)
class_is c = c.get16-c.ensures ∙ ap (number16 c.args.row.now) c.loop-at.invariant.place

pub returns-then-class-c-2 : goal.returns-then-class-c-2
returns-then-class-c-2 c =
    let d = (goal.at.returns-then-class-c-2 c).After-get16-c in
    let row = c.args.row.now in
    let here = row_at_lem c.requires c.args.class c.loop-at.invariant.entry (there d) (sym (class_is d) ∙ sym c.if-class-c-2.true) in
    ap Some (c.get16.ensures ∙ ap (λ (x : ℕ). number16 row (x + 2)) c.loop-at.invariant.place) ∙ sym (ap step_of here)

pub returns-then-class-c : goal.returns-then-class-c
returns-then-class-c c =
    let d = (goal.at.returns-then-class-c c).After-get16-c in
    sym (ap step_of (under_over c.requires c.loop-at.invariant.under (there d) (omega (arith, class_is d))))

pub loop-at-preserved : goal.loop-at-preserved
loop-at-preserved c =
    let d = (goal.at.loop-at-preserved c).After-get16-c in
    record {
      entry = c.loop-at.invariant.entry + 1;
      place = omega (arith, c.loop-at.invariant.place);
      under = under_to c.requires c.args.class c.loop-at.invariant.entry (there d) (omega (arith, class_is d));
    }

pub returns : goal.returns
returns c =
    sym (ap step_of (under_all c.requires c.loop-at.invariant.under (omega (arith, c.loop-at-test.false, c.loop-at.invariant.place, c.requires.sized))))
