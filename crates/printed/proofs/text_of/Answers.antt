-- An input that is too long, one that is refused, and one whose four lines are put behind the header.
use mathlib.Core.Path.{◌≡◌, sym, ap, ◌∙◌}
use mathlib.Core.List.{List, ◌++◌, append_assoc}
use Prim.Native.Nat.{ℕ, ◌≤◌}
use native.Mathlib.Omega.{arith}
use lib.ListN.{length}
use Rattle.paper.specs.Operations.{judge_table_of}
use Rattle.paper.specs.Text.{refused_line, too_long_line}
use Rattle.paper.specs.Programs.{bounds_header, bounds_line}
use Rattle.text.proofs.Line.{refused_length}
use Rattle.figures.proofs.Lines.{shows_number, shows_line}
use Rattle.printed.proofs.BoundsText.{text_too_long, text_refused, text_four}
use borrow.Author.Rules.{rules}
use Rattle.printed.proofs.text_of.Goals as goal
use Rattle.printed.proofs.text_of.Goals.{After-figures_of-none, After-put_figures}

-- Five pieces one behind the other are the first and the rest.
five : (a b c d e : List ℕ) → (((a ++ b) ++ c) ++ d) ++ e ≡ a ++ (b ++ (c ++ (d ++ e)))
five a b c d e = simp append_assoc

few : (c : After-figures_of-none) → length c.args.input.now ≤ 30000
few c = c.if-input-gt-LONGEST.false

-- The number that they show is the judge's.
judged : (c : After-figures_of-none) → c.figures_of-none.result.refused ≡ judge_table_of c.args.input.now
judged c = shows_number c.args.input.now 0 _ (few c) (omega (arith, c.large_buffer-room.ensures)) c.figures_of-none.ensures

-- The table is accepted where it is 0.
accepted : (c : After-put_figures) → judge_table_of c.args.input.now ≡ 0
accepted c = sym (judged (goal.at.After-put_figures c).After-figures_of-none) ∙ c.if-none-ne0.false

-- The header and the line of bound 0 take 106 bytes at most.
begun : (c : After-put_figures) → length c.put_figures.new.text ≤ 106
begun c =
    let head : length c.put.new.self ≤ 40 = rw (c.put.ensures, c.new-text.ensures) (search rules) in
    omega (arith, head, c.put_figures.ensures.short)

pub put_too_long-requires : goal.put_too_long-requires
unfolding too_long_line
put_too_long-requires c = (search rules, rw c.new-text.ensures (search rules))

pub returns-then-input-gt-LONGEST : goal.returns-then-input-gt-LONGEST
returns-then-input-gt-LONGEST c =
    c.put_too_long.ensures ∙ ap (λ text. text ++ too_long_line) c.new-text.ensures ∙ sym (text_too_long c.args.input.now c.if-input-gt-LONGEST.true)

pub put_refused-requires : goal.put_refused-requires
put_refused-requires c = (search rules, rw c.new-text.ensures (omega (arith, refused_length c.figures_of-none.result.refused (omega arith))))

pub returns-then-none-ne0 : goal.returns-then-none-ne0
returns-then-none-ne0 c =
    let input = c.args.input.now in
    let is = judged (goal.at.returns-then-none-ne0 c).After-figures_of-none in
    c.put_refused.ensures
    ∙ ap (λ text. text ++ refused_line c.figures_of-none.result.refused) c.new-text.ensures
    ∙ ap refused_line is
    ∙ sym (text_refused input (few (goal.at.returns-then-none-ne0 c).After-figures_of-none) (λ z. c.if-none-ne0.true (is ∙ z)))

pub put_bound-requires : goal.put_bound-requires
put_bound-requires c =
    let made = (goal.at.put_bound-requires c).After-put_figures in
    (accepted made, few (goal.at.put_bound-requires c).After-figures_of-none, search rules, omega (arith, begun made))

pub put_bound-requires-2 : goal.put_bound-requires-2
put_bound-requires-2 c =
    let made = (goal.at.put_bound-requires-2 c).After-put_figures in
    (accepted made, few (goal.at.put_bound-requires-2 c).After-figures_of-none, search rules, omega (arith, begun made, c.put_bound.ensures.short))

pub put_bound-requires-3 : goal.put_bound-requires-3
put_bound-requires-3 c =
    let made = (goal.at.put_bound-requires-3 c).After-put_figures in
    (accepted made, few (goal.at.put_bound-requires-3 c).After-figures_of-none, search rules, omega (arith, begun made, c.put_bound.ensures.short, c.put_bound-2.ensures.short))

pub returns : goal.returns
unfolding bounds_header
returns c =
    let input = c.args.input.now in
    let is = accepted (goal.at.returns c).After-put_figures in
    let few = few (goal.at.returns c).After-figures_of-none in
    let same = shows_line input 0 _ few (omega (arith, c.large_buffer-room.ensures)) c.figures_of-none.ensures is in
    let first = rw (same, c.put.ensures, c.new-text.ensures) at c.put_figures.ensures.line in
    rw (c.put_bound-2.ensures.line, c.put_bound.ensures.line, first) at c.put_bound-3.ensures.line
    ∙ five bounds_header (bounds_line input 0) (bounds_line input 1) (bounds_line input 2) (bounds_line input 3)
    ∙ sym (text_four input few is)
