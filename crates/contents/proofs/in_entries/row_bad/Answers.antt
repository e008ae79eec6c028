use mathlib.Core.Path.{◌≡◌, refl, sym, ◌∙◌}
use mathlib.Core.Bool.{false}
use Prim.Native.Nat.{◌/◌}
use native.Mathlib.Omega.{arith}
use lib.ListN.{length}
use Rattle.paper.proofs.Below.{any_more, any_found}
use Rattle.contents.specs.Tests.{class_wrong}
use Rattle.contents.proofs.in_entries.row_bad.Goals as goal

pub loop-j-init : goal.loop-j-init
loop-j-init c = refl

pub returns-then-class_bad : goal.returns-then-class_bad
returns-then-class_bad c =
    let t = c.args in
    sym (any_found (length t.row.now / 4) c.loop-j.j (class_wrong t.k t.row.now) (omega arith) (sym c.class_bad.ensures ∙ c.if-class_bad.true))

pub loop-j-preserved : goal.loop-j-preserved
loop-j-preserved c =
    let t = c.args in
    any_more c.loop-j.j (class_wrong t.k t.row.now) c.loop-j.invariant (sym c.class_bad.ensures ∙ c.if-class_bad.false)

pub returns : goal.returns
returns c =
    let all : c.loop-j.j ≡ length c.args.row.now / 4 = omega arith in
    sym (rw all at c.loop-j.invariant)
