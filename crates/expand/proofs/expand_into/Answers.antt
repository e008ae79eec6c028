-- Each way out: the image is refused, the room is too short, or the table is built.
use Rattle.std.proofs.Common.{◌≡◌, ℕ, ◌+◌, ◌*◌, ◌≤◌, sym, refl, ap, ap₂, ◌∙◌, arith}
use native.Mathlib.Nat.{mul-le-mul}
use Rattle.std.proofs.lemmas.Bool.{false≢true}
use Rattle.std.proofs.lemmas.Result.{err_from_is_err_and}
use Rattle.paper.specs.Table.{table_length}
use Rattle.paper.specs.Image.{states, classes, behind}
use Rattle.answers.specs.Numbers.{number_of}
use Rattle.answers.proofs.Told.{not_zero, told_applies}
use Rattle.facts.proofs.ImageFacts.{AcceptedImage, accepted_image, image_few_labels}
use Rattle.words.proofs.Lent.{fits_bytes}
use Rattle.image.proofs.Accepted.{accepted_laid}
use Rattle.image.specs.declared.judged.Image.{Image}
use Rattle.spread.specs.Front.{rows_at}
use Rattle.expand.proofs.Accepted.{passed_as, kept_range, kept-ends}
use Rattle.expand.proofs.Filled.{filled_table}
use Rattle.expand.proofs.Verdict.{expand_image, expand_short, expand-built}
use Rattle.expand.proofs.expand_into.Goals as goal
use Rattle.expand.proofs.expand_into.Goals.{After-behind-held, After-row_at-length}

known : (a : Image) → AcceptedImage a.bytes.now
known a = accepted_image a.bytes.now a.accepted

-- As many labels are counted as stand behind their counts.
held_is : (c : After-behind-held) → c.behind-held.result ≡ behind c.in_ok-image.image.bytes.now
held_is c = let L = c.labels.ensures in (rw (L.0, L.1, L.2, L.3) at c.behind-held.ensures).0

-- The rows begin there.
first_is : (c : After-behind-held) → 262 + 2 * c.in_ok-image.image.n + 2 * c.behind-held.result ≡ rows_at c.in_ok-image.image.bytes.now
first_is c = omega (arith, c.in_ok-image.image.states_are, held_is c)

-- The length that was reckoned is the table's.
size_is : (c : After-row_at-length) → let b = c.in_ok-image.image.bytes.now in c.row_at-length.result ≡ table_length (states b) (classes b) (behind b)
size_is c =
    let a = c.in_ok-image.image in
    let b = a.bytes.now in
    c.row_at-length.ensures ∙ ap₂ (λ (n k : ℕ). table_length n k c.behind-held.result) a.states_are a.classes_are
    ∙ ap (table_length (states b) (classes b)) (held_is (goal.at.After-row_at-length c).After-behind-held)

-- It is small.
size_small : (c : After-row_at-length) → c.row_at-length.result ≤ 279814
size_small c =
    let a = c.in_ok-image.image in
    let A = known a in
    omega (arith, size_is c, mul-le-mul A.few_states A.few_classes, A.few_states, image_few_labels a.bytes.now A)

pub returns-in_err-image : goal.returns-in_err-image
returns-in_err-image c =
    let p = err_from_is_err_and c.from_residual.result c.from_residual.ensures.1 in
    let refusal = c.in_err-image.field-0.0 in
    rw (p.1, p.2) (expand_image c.args.bytes.now c.args.room.now (number_of refusal) _ _ c.in_err-image.ensures.number (not_zero refusal) refl refl)

pub behind-held-requires : goal.behind-held-requires
behind-held-requires c =
    let A = known c.in_ok-image.image in
    let L = c.labels.ensures in
    rw (L.0, L.1, L.2) (omega (arith, A.few_states), omega (arith, A.long))

pub row_at-length-requires : goal.row_at-length-requires
row_at-length-requires c =
    let a = c.in_ok-image.image in
    let A = known a in
    (omega (arith, A.few_states, a.states_are, held_is (goal.at.row_at-length-requires c).After-behind-held, image_few_labels a.bytes.now A), omega (arith, A.few_classes, a.classes_are), omega (arith, A.few_states, a.states_are))

pub returns-then-room-length : goal.returns-then-room-length
returns-then-room-length c =
    let a = c.in_ok-image.image in
    rw (← c.in_ok-image.ensures.same) (expand_short a.bytes.now c.args.room.now (known a) c.row_at-length.result (size_is (goal.at.returns-then-room-length c).After-row_at-length) _ _ c.if-room-length.true refl refl)

pub begins_of-begins-requires : goal.begins_of-begins-requires
begins_of-begins-requires c = let a = c.in_ok-image.image in (accepted_laid a.bytes.now (known a), a.states_are, a.entries_are)

pub defaults_of-def-requires : goal.defaults_of-def-requires
defaults_of-def-requires c = let a = c.in_ok-image.image in passed_as a.bytes.now (known a) a.n a.m a.states_are a.entries_are

pub order_of-requires : goal.order_of-requires
order_of-requires c =
    let a = c.in_ok-image.image in
    (omega (arith, (known a).few_states, a.states_are), kept_range a.bytes.now (known a) c.defaults_of-def.ensures.0)

pub returns-in_err-chains : goal.returns-in_err-chains
returns-in_err-chains c =
    let a = c.in_ok-image.image in
    let none = kept-ends a.bytes.now (known a) c.defaults_of-def.ensures.0 _ refl in
    absurd (false≢true (sym none ∙ told_applies c.in_err-chains.field-0.0 _ 11 c.in_err-chains.ensures.endless))

pub invariant_of-spread : goal.invariant_of-spread
invariant_of-spread c =
    let a = c.in_ok-image.image in
    record {
      first_is = first_is (goal.at.invariant_of-spread c).After-behind-held;
      begin = c.begins_of-begins.ensures;
      falls = rw a.states_are at c.defaults_of-def.ensures.0;
    }

pub put_front-requires : goal.put_front-requires
put_front-requires c =
    let a = c.in_ok-image.image in
    (omega arith, omega (arith, (known a).long, first_is (goal.at.put_front-requires c).After-behind-held), omega (arith, c.row_at-length.ensures, c.if-room-length.false))

pub put_rows-requires : goal.put_rows-requires
put_rows-requires c = (omega (arith, c.row_at-length.ensures, c.if-room-length.false, c.put_front.ensures.kept.long), c.in_ok-chains.ensures.ordered.1)

pub overflow_cast-result : goal.overflow_cast-result
overflow_cast-result c = omega (arith, size_small (goal.at.overflow_cast-result c).After-row_at-length)

pub returns : goal.returns
returns c =
    let a = c.in_ok-image.image in
    let b = a.bytes.now in
    let G = goal.at.returns c in
    let (rows, kept) = c.put_rows.ensures in
    let F = filled_table (first_is G.After-behind-held) a.states_are a.classes_are (omega (arith, c.row_at-length.ensures, c.if-room-length.false)) c.put_front.ensures kept rows (fits_bytes c.put_rows.new.room c.type_inv.room) in
    rw (← c.in_ok-image.ensures.same) (expand-built b c.args.room.now (known a) c.row_at-length.result (size_is G.After-row_at-length) _ c.if-room-length.false F)
