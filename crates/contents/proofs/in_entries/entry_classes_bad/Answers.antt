use mathlib.Core.Path.{◌≡◌, refl, sym, ◌∙◌}
use mathlib.Core.Bool.{false}
use native.Mathlib.Omega.{arith}
use Rattle.paper.specs.Image.{states}
use Rattle.paper.proofs.Below.{any_more, any_found}
use Rattle.contents.proofs.Rows.{row_read}
use Rattle.contents.proofs.in_entries.entry_classes_bad.Invariants.{wrong}
use Rattle.contents.proofs.in_entries.entry_classes_bad.Goals as goal
use Rattle.contents.proofs.in_entries.entry_classes_bad.Goals.{After-row_bad}

-- What was answered of the state's part is whether some entry of it is wrong.
answered : (c : After-row_bad) → c.row_bad.result ≡ wrong c.args.b.now c.loop-s.s
answered c =
    row_read c.args.b.now c.requires.0 c.loop-s.s (omega (arith, c.requires.2, c.loop-s-test.true)) c.args.k c.requires.3 _ _ c.entries_of.ensures c.row_bad.ensures

pub loop-s-init : goal.loop-s-init
loop-s-init c = refl

pub entries_of-requires : goal.entries_of-requires
entries_of-requires c =
    (c.requires.0, c.requires.1, omega (arith, c.requires.2, c.loop-s-test.true))

pub returns-then-row_bad : goal.returns-then-row_bad
returns-then-row_bad c =
    sym (any_found (states c.args.b.now) c.loop-s.s (wrong c.args.b.now) (omega (arith, c.requires.2)) (sym (answered (goal.at.returns-then-row_bad c).After-row_bad) ∙ c.if-row_bad.true))

pub loop-s-preserved : goal.loop-s-preserved
loop-s-preserved c =
    any_more c.loop-s.s (wrong c.args.b.now) c.loop-s.invariant (sym (answered (goal.at.loop-s-preserved c).After-row_bad) ∙ c.if-row_bad.false)

pub returns : goal.returns
returns c =
    let all : c.loop-s.s ≡ states c.args.b.now = omega (arith, c.requires.2) in
    sym (rw all at c.loop-s.invariant)
