use mathlib.Core.Path.{◌≡◌, refl, sym, ap, ◌∙◌}
use mathlib.Core.Bool.{false}
use Prim.Native.Nat.{◌/◌}
use native.Mathlib.Omega.{arith}
use lib.Dec.{leb}
use lib.ListN.{length}
use borrow.Author.Tests.{le-leb, lt-leb}
use Rattle.paper.proofs.Below.{any_more, any_found}
use Rattle.patch.proofs.in_entries.row_next_bad.Invariants.{wrong}
use Rattle.patch.proofs.in_entries.row_next_bad.Goals as goal

pub loop-j-init : goal.loop-j-init
loop-j-init c = refl

pub returns-then-n-get16 : goal.returns-then-n-get16
returns-then-n-get16 c =
    let t = c.args in
    sym (any_found (length t.row.now / 4) c.loop-j.j (wrong t.row.now t.n) c.loop-j-test.true (ap (leb t.n) (sym c.get16.ensures) ∙ le-leb t.n c.get16.result c.if-n-get16.true))

pub loop-j-preserved : goal.loop-j-preserved
loop-j-preserved c =
    let t = c.args in
    any_more c.loop-j.j (wrong t.row.now t.n) c.loop-j.invariant (ap (leb t.n) (sym c.get16.ensures) ∙ lt-leb t.n c.get16.result c.if-n-get16.false)

pub returns : goal.returns
returns c =
    let all : c.loop-j.j ≡ length c.args.row.now / 4 = omega arith in
    sym (rw all at c.loop-j.invariant)
