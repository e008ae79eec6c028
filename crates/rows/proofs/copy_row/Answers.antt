use Rattle.std.proofs.Common.{◌≡◌, ◌+◌, ◌*◌, length-set, get_or, refl, ◌∙◌, arith}
use Rattle.paper.proofs.Filled.{fill_more}
use Rattle.rows.proofs.copy_row.Goals as goal

pub loop-c-preserved : goal.loop-c-preserved
loop-c-preserved c =
    let a = c.args in
    let i = c.loop-c in
    (length-set i.linked i.c _ ∙ i.invariant.0, fill_more (λ x. get_or a.rows.now (a.l * 256 + x) 0) i.linked i.c _ (omega (arith, i.invariant.0, c.requires.1, c.loop-c-test.true)) refl i.invariant.1)

pub returns : goal.returns
returns c =
    let l = c.loop-c in
    let e : l.c ≡ c.args.k = omega arith in
    rw e at l.invariant.1
