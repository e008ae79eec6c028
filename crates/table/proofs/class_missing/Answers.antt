use Rattle.std.proofs.Common.{◌≡◌, not, sym, ap, ◌∙◌, arith}
use Rattle.paper.proofs.Below.{any_more, any_found}
use Rattle.table.proofs.class_missing.Invariants.{missing}
use Rattle.table.proofs.class_missing.Goals as goal

pub returns-then-not-seen-c : goal.returns-then-not-seen-c
returns-then-not-seen-c c =
    let a = c.args in
    sym (any_found a.k c.loop-c.c (missing a.b.now a.at) (omega arith) (ap not (sym (c.classes_seen-seen.ensures c.loop-c.c (omega arith))) ∙ (ap not c.if-not-seen-c.true)))

pub loop-c-preserved : goal.loop-c-preserved
loop-c-preserved c =
    let a = c.args in
    any_more c.loop-c.c (missing a.b.now a.at) c.loop-c.invariant (ap not (sym (c.classes_seen-seen.ensures c.loop-c.c (omega arith))) ∙ (ap not c.if-not-seen-c.false))

pub returns : goal.returns
returns c = let all : c.loop-c.c ≡ c.args.k = omega arith in sym (rw all at c.loop-c.invariant)
