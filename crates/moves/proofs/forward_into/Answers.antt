-- Each way out: the image is refused, it is of edition 2, the room is too short, or the image is moved.
use Rattle.std.proofs.Common.{◌≡◌, ℕ, ◌+◌, ◌*◌, length, sym, refl, ap, ◌∙◌, arith}
use Rattle.std.proofs.lemmas.Result.{err_from_is_err_and}
use Rattle.paper.specs.Below.{sum}
use Rattle.paper.specs.Labels.{one, two}
use Rattle.paper.specs.Image.{edition, states, entries, labels, image_length_of}
use Rattle.paper.specs.Results.{labels_held_of}
use Rattle.answers.specs.Numbers.{number_of}
use Rattle.answers.proofs.Told.{not_zero}
use Rattle.labels.specs.Editions.{edition_in}
use Rattle.relabel.specs.Pieces.{numbered}
use Rattle.relabel.proofs.Across.{held_numbered, old_one, labels_written}
use Rattle.words.specs.Placed.{placed}
use Rattle.words.proofs.Lent.{fits_bytes}
use Rattle.moves.proofs.Filled.{moved-filled}
use Rattle.moves.proofs.Known.{known, few, few_entries}
use Rattle.moves.proofs.Verdict.{forward_image, forward_wrong, forward_short, forward-built}
use Rattle.moves.proofs.forward_into.Goals as goal
use Rattle.moves.proofs.forward_into.Goals.{After-held-held, After-image_length-whole, In_default}

-- It is of edition 1.
first : (c : In_default) → edition c.in_ok-image.image.bytes.now ≡ one
first c = sym c.in_ok-image.image.of_edition ∙ ap edition_in c.in_default.is

-- So many labels are held in edition 2.
held_is : (c : After-held-held) → let b = c.in_ok-image.image.bytes.now in c.held-held.result ≡ labels_held_of two (states b) (labels b)
held_is c =
    let a = c.in_ok-image.image in
    let b = a.bytes.now in
    (rw (← c.in_ok-image.ensures.same) at c.held-held.ensures).0 ∙ ap (λ (x : ℕ). sum x (λ s. length (numbered b s))) a.states_are ∙ held_numbered b (first (goal.at.After-held-held c).In_default)

-- The length that was reckoned is that of the image moved.
size_is : (c : After-image_length-whole) → let b = c.in_ok-image.image.bytes.now in
    c.image_length-whole.result ≡ image_length_of (states b) (entries b) (labels_held_of two (states b) (labels b))
size_is c =
    let a = c.in_ok-image.image in
    omega (arith, c.image_length-whole.ensures, a.states_are, a.entries_are, held_is (goal.at.After-image_length-whole c).After-held-held)

pub returns-in_err-image : goal.returns-in_err-image
returns-in_err-image c =
    let p = err_from_is_err_and c.from_residual.result c.from_residual.ensures.1 in
    let refusal = c.in_err-image.field-0.0 in
    rw (p.1, p.2) (forward_image c.args.bytes.now c.args.room.now (number_of refusal) _ _ c.in_err-image.ensures.number (not_zero refusal) refl refl)

pub returns-in-Two : goal.returns-in-Two
returns-in-Two c =
    let a = c.in_ok-image.image in
    rw (← c.in_ok-image.ensures.same) (forward_wrong a.bytes.now c.args.room.now (known a) (sym a.of_edition ∙ ap edition_in c.in-Two.is) _ _ refl refl)

pub invariant_of-tags : goal.invariant_of-tags
invariant_of-tags c =
    let a = c.in_ok-image.image in
    record { few = few a; inside = omega (arith, a.states_are, (known a).long, ap length c.in_ok-image.ensures.same) }

pub overflow_cast-image : goal.overflow_cast-image
overflow_cast-image c = omega (arith, few_entries c.in_ok-image.image)

pub image_length-whole-requires : goal.image_length-whole-requires
image_length-whole-requires c =
    let a = c.in_ok-image.image in
    (few a, few_entries a, omega (arith, c.held-held.ensures.1, few a))

pub returns-then-room-whole : goal.returns-then-room-whole
returns-then-room-whole c =
    let a = c.in_ok-image.image in
    let G = goal.at.returns-then-room-whole c in
    rw (← c.in_ok-image.ensures.same) (forward_short a.bytes.now c.args.room.now (known a) (first G.In_default) c.image_length-whole.result (size_is G.After-image_length-whole) _ _ (omega (arith, c.if-room-whole.true)) refl refl)

pub first_word-requires : goal.first_word-requires
first_word-requires c = few c.in_ok-image.image

pub put_head-requires : goal.put_head-requires
put_head-requires c =
    (omega (arith, (known c.in_ok-image.image).long, ap length c.in_ok-image.ensures.same), omega (arith, c.image_length-whole.ensures, c.if-room-whole.false))

pub put_lists-requires : goal.put_lists-requires
put_lists-requires c =
    omega (arith, c.image_length-whole.ensures, c.if-room-whole.false, c.held-held.ensures.0)

pub put_rest-requires : goal.put_rest-requires
put_rest-requires c =
    let a = c.in_ok-image.image in
    (omega (arith, c.held-held.ensures.1, few a), omega (arith, a.states_are, a.entries_are, (known a).long), omega (arith, c.image_length-whole.ensures, c.if-room-whole.false))

pub returns : goal.returns
returns c =
    let a = c.in_ok-image.image in
    let b = a.bytes.now in
    let same = c.in_ok-image.ensures.same in
    let G = goal.at.returns c in
    let E = first G.In_default in
    let N = a.states_are in
    let F = moved-filled b (rw same (fits_bytes c.args.bytes.now c.type_inv.bytes)) (known a) two a.n a.m c.held-held.result (268 + 2 * a.n) c.first_word.result N a.entries_are (held_is G.After-held-held)
    (omega (arith, old_one b E)) c.first_word.ensures c.args.room.now _ _ _ (omega (arith, c.image_length-whole.ensures, c.if-room-whole.false))
    (rw (← same) at c.put_head.ensures) (rw (← same) at c.put_lists.ensures ∙ ap (placed _ 268) (labels_written b a.n two one E N)) c.put_rest.ensures in
    rw (← same) (forward-built b c.args.room.now (known a) E c.image_length-whole.result (size_is G.After-image_length-whole) _ (omega (arith, c.if-room-whole.false)) F)
