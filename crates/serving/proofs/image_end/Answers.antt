-- The counts of any input give a length of 280 or more, which fits, and may lie behind the input's end, as it does where that comes before the end of the counts of labels.
use mathlib.Core.Path.{◌≡◌, ap, ap₂, ◌∙◌}
use mathlib.Core.List.{List}
use Prim.Native.Nat.{ℕ, ◌+◌, ◌*◌, ◌≤◌, ◌<◌}
use native.Mathlib.Omega.{arith}
use Rattle.paper.specs.Labels.{edition_of, labels_behind, states_in_word}
use Rattle.paper.specs.Image.{states, behind}
use Rattle.paper.specs.Programs.{image_end_of}
use Rattle.serving.proofs.Cut.{cut_whole, cut_inside}
use Rattle.serving.proofs.image_end.Goals as goal
use Rattle.serving.proofs.image_end.Goals.{After-behind-held, After-get32-m, After-states_of-n}

-- The input, from where n is read.
abbrev bytes : After-states_of-n → List ℕ
bytes c = c.args.input.now

-- n is that of the input.
states_are : (c : After-states_of-n) → c.states_of-n.result ≡ states (bytes c)
states_are c = c.states_of-n.ensures ∙ ap states_in_word c.get16-word.ensures

-- So is the number of labels behind their counts.
held_is : (c : After-behind-held) → c.behind-held.result ≡ behind (bytes (goal.at.After-behind-held c).After-states_of-n)
held_is c =
    let input = bytes (goal.at.After-behind-held c).After-states_of-n in
    c.behind-held.ensures.0 ∙ ap₂ (labels_behind input 268) (states_are (goal.at.After-behind-held c).After-states_of-n) (c.of.ensures ∙ ap edition_of c.get16-word.ensures)

-- What is computed is the length that they give.
given : (c : After-get32-m)
    → 280 + 6 * c.states_of-n.result + 2 * c.behind-held.result + 4 * c.get32-m.result ≡ image_end_of (bytes (goal.at.After-get32-m c).After-states_of-n)
given c = omega (arith, states_are (goal.at.After-get32-m c).After-states_of-n, held_is (goal.at.After-get32-m c).After-behind-held, c.get32-m.ensures)

-- The numbers are small, so nothing wraps.
small : (c : After-get32-m) → (c.states_of-n.result < 32768) × (c.behind-held.result ≤ 65536 * c.states_of-n.result)
small c = (omega (arith, states_are (goal.at.After-get32-m c).After-states_of-n), c.behind-held.ensures.1)

pub returns-then-input-lt280 : goal.returns-then-input-lt280
returns-then-input-lt280 c = let input = c.args.input.now in cut_whole input (image_end_of input) (omega arith)

pub overflow_mul-n : goal.overflow_mul-n
overflow_mul-n c = omega (arith, states_are (goal.at.overflow_mul-n c).After-states_of-n)

pub overflow_add-n : goal.overflow_add-n
overflow_add-n c = omega (arith, states_are (goal.at.overflow_add-n c).After-states_of-n)

pub returns-then-input-n : goal.returns-then-input-n
returns-then-input-n c = let input = bytes (goal.at.returns-then-input-n c).After-states_of-n in cut_whole input (image_end_of input) (omega (arith, c.if-input-n.true, states_are (goal.at.returns-then-input-n c).After-states_of-n))

pub behind-held-requires : goal.behind-held-requires
behind-held-requires c = (omega (arith, states_are (goal.at.behind-held-requires c).After-states_of-n), omega (arith, c.if-input-n.false))

pub overflow_mul-end : goal.overflow_mul-end
overflow_mul-end c = omega (arith, small (goal.at.overflow_mul-end c).After-get32-m)

pub overflow_add-end : goal.overflow_add-end
overflow_add-end c = omega (arith, small (goal.at.overflow_add-end c).After-get32-m)

pub overflow_mul-end-2 : goal.overflow_mul-end-2
overflow_mul-end-2 c = omega (arith, small (goal.at.overflow_mul-end-2 c).After-get32-m)

pub overflow_add-end-2 : goal.overflow_add-end-2
overflow_add-end-2 c = omega (arith, small (goal.at.overflow_add-end-2 c).After-get32-m)

pub overflow_mul-end-3 : goal.overflow_mul-end-3
overflow_mul-end-3 c = omega (arith, small (goal.at.overflow_mul-end-3 c).After-get32-m)

pub overflow_add-end-3 : goal.overflow_add-end-3
overflow_add-end-3 c = omega (arith, small (goal.at.overflow_add-end-3 c).After-get32-m)

pub returns-then-input-end : goal.returns-then-input-end
returns-then-input-end c =
    let input = bytes (goal.at.returns-then-input-end c).After-states_of-n in
    cut_whole input (image_end_of input) (omega (arith, c.if-input-end.true, given (goal.at.returns-then-input-end c).After-get32-m))

pub returns : goal.returns
returns c =
    let input = bytes (goal.at.returns c).After-states_of-n in
    rw (given (goal.at.returns c).After-get32-m) (cut_inside input (image_end_of input) (omega (arith, c.if-input-end.false, given (goal.at.returns c).After-get32-m)))
