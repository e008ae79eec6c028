use Rattle.std.proofs.Common.{◌≡◌, sym, ◌∙◌, eqb, arith}
use borrow.Author.Tests.{eq-eqb, ne_eqb}
use Rattle.paper.specs.Strings as goal
use Rattle.paper.proofs.Below.{any_more, any_found}
use Rattle.wordlist.proofs.WordList.label_before.Goals as asked

pub returns-then-label : asked.returns-then-label
returns-then-label c =
    let b = c.args.self.now.bytes.now in
    sym (any_found c.args.i c.loop-j.j (λ q. eqb (goal.label b q) c.args.label) c.loop-j-test.true (eq-eqb (goal.label b c.loop-j.j) c.args.label (sym c.label.ensures ∙ c.if-label.true)))

pub loop-j-preserved : asked.loop-j-preserved
loop-j-preserved c =
    let b = c.args.self.now.bytes.now in
    any_more c.loop-j.j (λ q. eqb (goal.label b q) c.args.label) c.loop-j.invariant (ne_eqb (goal.label b c.loop-j.j) c.args.label (λ e. c.if-label.false (c.label.ensures ∙ e)))

pub returns : asked.returns
returns c = let e : c.loop-j.j ≡ c.args.i = omega arith in sym (rw e at c.loop-j.invariant)
