use mathlib.Core.Path.{◌≡◌, refl, sym, ap, ◌∙◌}
use mathlib.Core.Bool.{false}
use mathlib.Core.List.{List}
use Prim.Native.Nat.{ℕ, ◌/◌}
use native.Mathlib.Omega.{arith}
use lib.ListN.{length}
use Rattle.paper.specs.Below.{any}
use Rattle.paper.specs.Patch.{entries_part_of}
use Rattle.paper.proofs.Below.{any_more, any_found}
use Rattle.patch.proofs.Parts.{part_length}
use Rattle.patch.proofs.in_entries.next_bad.Invariants.{test, wrong}
use Rattle.patch.proofs.in_entries.next_bad.Goals as goal
use Rattle.patch.proofs.in_entries.next_bad.Goals.{After-row_next_bad}

-- What was answered of the part is whether some entry of the listed state is wrong.
answered : (c : After-row_next_bad) → let t = c.args in c.row_next_bad.result ≡ wrong t.x.now t.n c.loop-i.i
answered c =
    let i = c.loop-i.i in
    let part = entries_part_of c.args.x.now i in
    c.row_next_bad.ensures ∙ ap (λ (row : List ℕ). any (length row / 4) (test row c.args.n)) c.entries_of.ensures
    ∙ ap (λ (m : ℕ). any m (test part c.args.n)) (part_length c.requires.0 i c.loop-i-test.true)

pub loop-i-init : goal.loop-i-init
loop-i-init c = refl

pub entries_of-requires : goal.entries_of-requires
entries_of-requires c = (c.requires.0, c.requires.1, c.loop-i-test.true)

pub returns-then-row_next_bad : goal.returns-then-row_next_bad
returns-then-row_next_bad c =
    let t = c.args in
    sym (any_found t.p c.loop-i.i (wrong t.x.now t.n) c.loop-i-test.true (sym (answered (goal.at.returns-then-row_next_bad c).After-row_next_bad) ∙ c.if-row_next_bad.true))

pub loop-i-preserved : goal.loop-i-preserved
loop-i-preserved c =
    let t = c.args in
    any_more c.loop-i.i (wrong t.x.now t.n) c.loop-i.invariant (sym (answered (goal.at.loop-i-preserved c).After-row_next_bad) ∙ c.if-row_next_bad.false)

pub returns : goal.returns
returns c =
    let all : c.loop-i.i ≡ c.args.p = omega (arith, c.loop-i-test.false) in
    sym (rw all at c.loop-i.invariant)
