use mathlib.Core.Path.{◌≡◌, refl, sym, ◌∙◌}
use mathlib.Core.Bool.{false}
use native.Mathlib.Omega.{arith}
use Rattle.paper.specs.View.{record_bad_of}
use Rattle.paper.specs.Image.{states, image_view}
use Rattle.paper.proofs.Below.{any_more, any_found}
use Rattle.contents.proofs.Records.{record_read}
use Rattle.contents.proofs.in_records.some_record_bad.Goals as goal
use Rattle.contents.proofs.in_records.some_record_bad.Goals.{After-record_bad}

-- What was answered of the record read is whether the state's record is wrong.
answered : (c : After-record_bad) → c.record_bad.result ≡ record_bad_of (image_view c.args.b.now) c.loop-s.s
answered c =
    record_read c.args.b.now c.args.n c.args.records c.requires.0 c.args.k c.requires.1 c.loop-s.s _ _ c.record_at.ensures c.record_bad.ensures

pub loop-s-init : goal.loop-s-init
loop-s-init c = refl

pub returns-then-record_bad : goal.returns-then-record_bad
returns-then-record_bad c =
    sym (any_found (states c.args.b.now) c.loop-s.s (record_bad_of (image_view c.args.b.now)) (omega (arith, c.requires.0.states_are)) (sym (answered (goal.at.returns-then-record_bad c).After-record_bad) ∙ c.if-record_bad.true))

pub loop-s-preserved : goal.loop-s-preserved
loop-s-preserved c =
    any_more c.loop-s.s (record_bad_of (image_view c.args.b.now)) c.loop-s.invariant (sym (answered (goal.at.loop-s-preserved c).After-record_bad) ∙ c.if-record_bad.false)

pub returns : goal.returns
returns c =
    let all : c.loop-s.s ≡ states c.args.b.now = omega (arith, c.requires.0.states_are) in
    sym (rw all at c.loop-s.invariant)
