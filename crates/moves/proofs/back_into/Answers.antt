-- Each way out: the image is refused, it is of edition 1, a list is longer than one, the room is too short, or the image is moved.
use Rattle.std.proofs.Common.{◌≡◌, ◌+◌, ◌*◌, ltb, length, sym, refl, ap, ◌∙◌, arith}
use Rattle.std.proofs.lemmas.Result.{err_from_is_err_and}
use Rattle.paper.specs.Below.{any}
use Rattle.paper.specs.Words.{Bytes}
use Rattle.paper.specs.Labels.{one, two, label_count}
use Rattle.paper.specs.Image.{edition, states, entries, behind, image_length_of}
use Rattle.answers.specs.Numbers.{number_of}
use Rattle.answers.proofs.Told.{not_zero}
use Rattle.labels.specs.Editions.{edition_in}
use Rattle.words.specs.Placed.{placed}
use Rattle.words.proofs.Lent.{fits_bytes}
use Rattle.relabel.proofs.Across.{held_one, counted_behind, labels_written}
use Rattle.moves.proofs.Filled.{old-behind, moved-filled}
use Rattle.moves.proofs.Known.{known, few, few_entries}
use Rattle.moves.proofs.Verdict.{back_image, back_wrong, back_many, back_short, back-built}
use Rattle.moves.proofs.back_into.Goals as goal
use Rattle.moves.proofs.back_into.Goals.{After-behind, After-count_above, After-image_length-whole, In_default}

-- It is of edition 2.
second : (c : In_default) → edition c.in_ok-image.image.bytes.now ≡ two
second c = sym c.in_ok-image.image.of_edition ∙ ap edition_in c.in_default.is

-- Whether a count of the image is above 1.
many_is : (c : After-count_above) → let b = c.in_ok-image.image.bytes.now in c.count_above.result ≡ any (states b) (λ s. ltb 1 (label_count b 268 s))
many_is c = let L = c.labels-labels.ensures in rw (L.0, L.1, L.2) at c.count_above.ensures

-- The length that was reckoned is that of the image moved.
size_is : (c : After-image_length-whole) → let b = c.in_ok-image.image.bytes.now in c.image_length-whole.result ≡ image_length_of (states b) (entries b) 0
size_is c = let a = c.in_ok-image.image in omega (arith, c.image_length-whole.ensures, a.states_are, a.entries_are)

pub returns-in_err-image : goal.returns-in_err-image
returns-in_err-image c =
    let p = err_from_is_err_and c.from_residual.result c.from_residual.ensures.1 in
    let refusal = c.in_err-image.field-0.0 in
    rw (p.1, p.2) (back_image c.args.bytes.now c.args.room.now (number_of refusal) _ _ c.in_err-image.ensures.number (not_zero refusal) refl refl)

pub returns-in-One : goal.returns-in-One
returns-in-One c =
    let a = c.in_ok-image.image in
    rw (← c.in_ok-image.ensures.same) (back_wrong a.bytes.now c.args.room.now (known a) (sym a.of_edition ∙ ap edition_in c.in-One.is) _ _ refl refl)

pub count_above-requires : goal.count_above-requires
count_above-requires c = let L = c.labels-labels.ensures in rw (L.0, L.1, L.2) (omega (arith, (known c.in_ok-image.image).long))

pub returns-then-count_above : goal.returns-then-count_above
returns-then-count_above c =
    let a = c.in_ok-image.image in
    let G = goal.at.returns-then-count_above c in
    rw (← c.in_ok-image.ensures.same) (back_many a.bytes.now c.args.room.now (known a) (second G.In_default) c.count_above.result (many_is G.After-count_above) _ _ c.if-count_above.true refl refl)

pub overflow_cast-image : goal.overflow_cast-image
overflow_cast-image c = omega (arith, few_entries c.in_ok-image.image)

pub image_length-whole-requires : goal.image_length-whole-requires
image_length-whole-requires c = let a = c.in_ok-image.image in (few a, few_entries a, omega arith)

pub returns-then-room-whole : goal.returns-then-room-whole
returns-then-room-whole c =
    let a = c.in_ok-image.image in
    let G = goal.at.returns-then-room-whole c in
    rw (← c.in_ok-image.ensures.same)
    (back_short a.bytes.now c.args.room.now (known a) (second G.In_default) c.count_above.result (many_is G.After-count_above) c.if-count_above.false c.image_length-whole.result (size_is G.After-image_length-whole)
    _ _ (omega (arith, c.if-room-whole.true)) refl refl)

pub behind-requires : goal.behind-requires
behind-requires c =
    let a = c.in_ok-image.image in
    let L = c.labels-labels.ensures in
    rw (L.0, L.1, L.2) (omega (arith, (known a).few_states), omega (arith, (known a).long))

pub invariant_of-tags : goal.invariant_of-tags
invariant_of-tags c =
    let a = c.in_ok-image.image in
    record { few = few a; inside = omega (arith, a.states_are, (known a).long, ap length c.in_ok-image.ensures.same) }

pub first_word-requires : goal.first_word-requires
first_word-requires c = few c.in_ok-image.image

pub put_head-requires : goal.put_head-requires
put_head-requires c =
    (omega (arith, (known c.in_ok-image.image).long, ap length c.in_ok-image.ensures.same), omega (arith, c.image_length-whole.ensures, c.if-room-whole.false))

-- So many labels stand behind the counts.
held_is : (c : After-behind) → c.behind.result ≡ behind c.in_ok-image.image.bytes.now
held_is c = let L = c.labels-labels.ensures in (rw (L.0, L.1, L.2, L.3) at c.behind.ensures).0

pub put_numbers-requires : goal.put_numbers-requires
put_numbers-requires c =
    let a = c.in_ok-image.image in
    let same = c.in_ok-image.ensures.same in
    rw (← same) (omega (arith, a.states_are, (known a).long, counted_behind a.bytes.now a.n (second (goal.at.put_numbers-requires c).In_default) a.states_are), omega (arith, c.image_length-whole.ensures, c.if-room-whole.false))

pub overflow_mul-behind : goal.overflow_mul-behind
overflow_mul-behind c = omega (arith, held_is (goal.at.overflow_mul-behind c).After-behind, (known c.in_ok-image.image).long)

pub put_rest-requires : goal.put_rest-requires
put_rest-requires c =
    let a = c.in_ok-image.image in
    (omega arith, omega (arith, a.states_are, a.entries_are, (known a).long, held_is (goal.at.put_rest-requires c).After-behind), omega (arith, c.image_length-whole.ensures, c.if-room-whole.false))

pub returns : goal.returns
returns c =
    let a = c.in_ok-image.image in
    let b = a.bytes.now in
    let same = c.in_ok-image.ensures.same in
    let G = goal.at.returns c in
    let E = second G.In_default in
    let N = a.states_are in
    let B : Bytes b = rw same (fits_bytes c.args.bytes.now c.type_inv.bytes) in
    let F = moved-filled b B (known a) one a.n a.m 0 (268 + 2 * a.n + 2 * c.behind.result) c.first_word.result N a.entries_are (held_one b) (omega (arith, held_is G.After-behind, old-behind b B (known a))) c.first_word.ensures
    c.args.room.now _ _ _ (omega (arith, c.image_length-whole.ensures, c.if-room-whole.false)) (rw (← same) at c.put_head.ensures) (rw (← same) at c.put_numbers.ensures ∙ ap (placed _ 268) (labels_written b a.n one two E N)) c.put_rest.ensures in
    rw (← same)
    (back-built b c.args.room.now (known a) E c.count_above.result (many_is G.After-count_above) c.if-count_above.false c.image_length-whole.result (size_is G.After-image_length-whole) _
    (omega (arith, c.if-room-whole.false)) F)
