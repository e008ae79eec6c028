-- An input that is too long, one whose image is refused, and one whose lines are put.
use mathlib.Core.Path.{◌≡◌, sym, ap, ◌∙◌}
use mathlib.Core.List.{List, ◌++◌}
use Prim.Native.Nat.{ℕ, ◌-◌, ◌≤◌}
use native.Mathlib.Omega.{arith}
use lib.ListN.{length, take, drop, length-drop}
use lib.Seq.{take_all}
use Rattle.paper.specs.Operations.{judge_image_of}
use Rattle.paper.specs.Text.{refused_line, too_long_line}
use Rattle.paper.specs.Programs.{image_end_of}
use Rattle.facts.proofs.ImageFacts.{AcceptedImage, accepted_image}
use Rattle.text.proofs.Line.{refused_length}
use Rattle.counting.proofs.Counting.{lines_are}
use Rattle.serving.specs.Cut.{CutAt}
use Rattle.serving.proofs.ServedText.{text_too_long, text_refused, text_lines}
use Rattle.serving.proofs.Viewed.{opened_accepted}
use borrow.Author.Rules.{rules}
use Rattle.serving.proofs.text_of.Goals as goal
use Rattle.serving.proofs.text_of.Goals.{After-image_end-end, After-judge_image-number, After-open}

-- What lies behind a place is all of the input from there on.
behind : (place : ℕ) (input : List ℕ) → take (length input - place) (drop place input) ≡ drop place input
behind place input = take_all (length input - place) (drop place input) (omega (arith, length-drop place input))

few : (c : After-image_end-end) → length c.args.input.now ≤ 60000
few c = c.if-input-gt-LONGEST.false

cut : (c : After-image_end-end) → CutAt c.args.input.now (image_end_of c.args.input.now) c.image_end-end.result
cut c = c.image_end-end.ensures

-- The number is that of the image that the input begins with.
judged : (c : After-judge_image-number) → c.judge_image-number.result ≡ judge_image_of (take (image_end_of c.args.input.now) c.args.input.now)
judged c = c.judge_image-number.ensures ∙ ap judge_image_of (cut (goal.at.After-judge_image-number c).After-image_end-end).before

pub put_too_long-requires : goal.put_too_long-requires
unfolding too_long_line
put_too_long-requires c = (search rules, rw c.new-text.ensures (search rules))

pub returns-then-input-gt-LONGEST : goal.returns-then-input-gt-LONGEST
returns-then-input-gt-LONGEST c =
    c.put_too_long.ensures ∙ ap (λ text. text ++ too_long_line) c.new-text.ensures ∙ sym (text_too_long c.args.input.now c.if-input-gt-LONGEST.true)

pub put_refused-requires : goal.put_refused-requires
put_refused-requires c = (search rules, rw c.new-text.ensures (omega (arith, refused_length c.judge_image-number.result (omega arith))))

pub returns-then-number-ne0 : goal.returns-then-number-ne0
returns-then-number-ne0 c =
    let input = c.args.input.now in
    let is = judged (goal.at.returns-then-number-ne0 c).After-judge_image-number in
    c.put_refused.ensures
    ∙ ap (λ text. text ++ refused_line c.judge_image-number.result) c.new-text.ensures
    ∙ ap refused_line is
    ∙ sym (text_refused input (few (goal.at.returns-then-number-ne0 c).After-image_end-end) (λ z. c.if-number-ne0.true (is ∙ z)))

-- Its image is accepted.
accepted : (c : After-open) → AcceptedImage (take c.image_end-end.result c.args.input.now)
accepted c = accepted_image _ (sym c.judge_image-number.ensures ∙ c.if-number-ne0.false)

pub open-requires : goal.open-requires
open-requires c = omega (arith, (accepted_image _ (sym c.judge_image-number.ensures ∙ c.if-number-ne0.false)).long)

pub columns_of-columns-requires : goal.columns_of-columns-requires
columns_of-columns-requires c =
    let input = c.args.input.now in
    let place = c.image_end-end.result in (
      opened_accepted _ _ c.open.ensures (accepted (goal.at.columns_of-columns-requires c).After-open),
      rw (behind place input) (omega (arith, length-drop place input, few (goal.at.columns_of-columns-requires c).After-image_end-end)),
    )

pub put_lines-requires : goal.put_lines-requires
put_lines-requires c =
    let A = accepted (goal.at.put_lines-requires c).After-open in
    let columns = rw c.open.ensures.0 at c.columns_of-columns.ensures in
    (search rules, (omega (arith, columns.0, A.few_states), rw c.new-text.ensures (search rules)))

pub returns : goal.returns
returns c =
    let input = c.args.input.now in
    let place = c.image_end-end.result in
    let is = cut (goal.at.returns c).After-image_end-end in
    let columns = rw c.open.ensures.0 at c.columns_of-columns.ensures in
    let lines = rw (behind place input, is.behind, is.before) at (lines_are c.columns_of-columns.result.n columns.0 columns.1 columns.2) in
    rw c.new-text.ensures at c.put_lines.ensures.lines
    ∙ lines
    ∙ sym (text_lines input (few (goal.at.returns c).After-image_end-end) (sym (judged (goal.at.returns c).After-judge_image-number) ∙ c.if-number-ne0.false))
