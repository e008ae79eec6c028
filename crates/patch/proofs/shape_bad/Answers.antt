-- Each way out is one of the tests of ground 22; the length is below 2 to the 32 when the check word is held to it, since the trailer has said so.
use mathlib.Core.Path.{◌≡◌, sym, ◌∙◌}
use mathlib.Core.Logic.{inl, inr}
use mathlib.Core.List.{List}
use Prim.Native.Nat.{ℕ, ◌-◌}
use native.Mathlib.Omega.{arith}
use lib.ListN.{length}
use Rattle.paper.specs.Patch.{whole_length}
use Rattle.paper.proofs.Words.{number32_below}
use Rattle.paper.proofs.Tests.{or_both, not_differ}
use Rattle.words.proofs.Lent.{fits_bytes}
use Rattle.patch.proofs.Shapes.{shape_short, shape_listed, shape_length, shape_trailer, shape_check}
use Rattle.patch.proofs.shape_bad.Goals as goal
use Rattle.patch.proofs.shape_bad.Goals.{then-p-lt1-via-then-p-lt1, then-p-lt1-via-else-p-lt1+then-p-gt64, After-get32-q, Else-trailer_bad}

-- The patch.
abbrev bytes : After-get32-q → List ℕ
bytes c = c.args.x.now

-- Past the trailer's test the whole length that it states is the length.
whole : (c : Else-trailer_bad) → whole_length (bytes (goal.at.Else-trailer_bad c).After-get32-q) ≡ length (bytes (goal.at.Else-trailer_bad c).After-get32-q)
whole c = not_differ _ _ (or_both _ _ (sym c.trailer_bad.ensures ∙ c.if-trailer_bad.false)).0

pub returns-then-x-lt22 : goal.returns-then-x-lt22
returns-then-x-lt22 c = shape_short c.args.x.now c.if-x-lt22.true

pub returns-then-p-lt1 : goal.returns-then-p-lt1
returns-then-p-lt1 c =
    elim c.then-p-lt1.branch [
      | then-p-lt1-via-then-p-lt1 w ↦ shape_listed c.args.x.now c.if-x-lt22.false c.get16-p.result c.get16-p.ensures (inl w.if-p-lt1.true)
      | then-p-lt1-via-else-p-lt1+then-p-gt64 w ↦ shape_listed c.args.x.now c.if-x-lt22.false c.get16-p.result c.get16-p.ensures (inr w.if-p-gt64.true)
    ]

pub returns-then-x-p : goal.returns-then-x-p
returns-then-x-p c = shape_length (bytes (goal.at.returns-then-x-p c).After-get32-q) c.if-x-lt22.false c.get16-p.result c.get16-p.ensures c.if-p-lt1.false c.if-p-gt64.false c.get32-q.result c.get32-q.ensures c.if-x-p.true

pub returns-then-trailer_bad : goal.returns-then-trailer_bad
returns-then-trailer_bad c =
    shape_trailer (bytes (goal.at.returns-then-trailer_bad c).After-get32-q) c.if-x-lt22.false c.get16-p.result c.get16-p.ensures c.if-p-lt1.false c.if-p-gt64.false c.get32-q.result c.get32-q.ensures
    c.if-x-p.false (sym c.trailer_bad.ensures ∙ c.if-trailer_bad.true)

pub check_bad-requires : goal.check_bad-requires
check_bad-requires c =
    let sized = c.if-x-p.false in
    (omega (arith, sized), omega (arith, sized), omega (arith, whole (goal.at.check_bad-requires c).Else-trailer_bad, number32_below (bytes (goal.at.check_bad-requires c).After-get32-q) (length (bytes (goal.at.check_bad-requires c).After-get32-q) - 8) (fits_bytes (bytes (goal.at.check_bad-requires c).After-get32-q) c.type_inv.x)))

pub returns : goal.returns
returns c =
    shape_check (bytes (goal.at.returns c).After-get32-q) c.if-x-lt22.false c.get16-p.result c.get16-p.ensures c.if-p-lt1.false c.if-p-gt64.false c.get32-q.result c.get32-q.ensures
    c.if-x-p.false (sym c.trailer_bad.ensures ∙ c.if-trailer_bad.false) _ c.check_bad.ensures
