-- Each way out: the image is refused, it is its own rewriting and the room decides, or the room decides for the image with the defaults that stay.
use Rattle.std.proofs.Common.{◌≡◌, ℕ, ◌≤◌, List, true, false, refl, sym, subst, ◌∙◌, arith, rules}
use Rattle.std.proofs.lemmas.Result.{err_from_is_err_and}
use Rattle.paper.specs.Words.{Bytes}
use Rattle.paper.specs.Image.{classes}
use Rattle.paper.specs.Promises.{Rewrites}
use Rattle.facts.proofs.ImageFacts.{AcceptedImage}
use Rattle.words.proofs.Lent.{fits_bytes}
use Rattle.answers.specs.Numbers.{number_of, answer_of, length_of}
use Rattle.answers.proofs.Told.{not_zero, told_applies}
use Rattle.image.specs.Passed.{Passed}
use Rattle.image.proofs.Accepted.{accepted_laid}
use Rattle.build.specs.Measured.{Fills}
use Rattle.build.proofs.Lists.{list_drawn}
use Rattle.rewrite.specs.Staying.{Stays}
use Rattle.rewrite.proofs.Setting.{image_accepted}
use Rattle.rewrite.proofs.Standing.{passed_as, table_reads, table_right}
use Rattle.rewrite.proofs.Staying.{stays_are, weak_by_counts, none_weak, stay_range, stay_ends, stay_image, counts_are}
use Rattle.rewrite.proofs.Verdict.{rewrite_image, rewrite_fills, rewrite_copies}
use Rattle.rewrite.proofs.rewritten_into.Goals as goal
use Rattle.rewrite.proofs.rewritten_into.Goals.{After-stay_of-stay, In_ok-image}

-- What is answered for the bytes of the image that is judged is answered for those that came.
same : (c : In_ok-image) → (number l : ℕ) (after : List ℕ) → Rewrites c.in_ok-image.image.bytes.now c.args.room.now number l after → Rewrites c.args.image.now c.args.room.now number l after
same c number l after = subst (λ (b : List ℕ). Rewrites b c.args.room.now number l after) c.in_ok-image.ensures.same

-- The image.
abbrev bytes : In_ok-image → List ℕ
bytes c = c.in_ok-image.image.bytes.now

-- It is accepted.
accepted : (c : In_ok-image) → AcceptedImage (bytes c)
accepted c = image_accepted c.in_ok-image.image

-- It is of bytes.
readable : (c : In_ok-image) → Bytes (bytes c)
readable c = rw c.in_ok-image.ensures.same (fits_bytes c.args.image.now c.type_inv.image)

-- It has passed the first grounds.
passed : (c : In_ok-image) → let I = c.in_ok-image.image in Passed I.bytes.now I.n (classes I.bytes.now) I.m
passed c = let I = c.in_ok-image.image in passed_as I.bytes.now (accepted c) I.n I.m I.states_are I.entries_are

-- n is at most 512.
few : (c : In_ok-image) → c.in_ok-image.image.n ≤ 512
few c = (passed c).few_states

-- The defaults are those that stay.
stays : (c : After-stay_of-stay) → let I = c.in_ok-image.image in Stays I.bytes.now I.n c.stay_of-stay.result
stays c =
    let I = c.in_ok-image.image in
    let G = (goal.at.After-stay_of-stay c).In_ok-image in
    stays_are I.bytes.now (readable G) (accepted G) I.n I.k I.states_are I.classes_are c.counts_of-before.result c.defaults_of-def.result c.stay_of-stay.result
    c.counts_of-before.ensures c.defaults_of-def.ensures.0 c.stay_of-stay.ensures

pub returns-in_err-image : goal.returns-in_err-image
returns-in_err-image c =
    let p = err_from_is_err_and c.from_residual.result c.from_residual.ensures.1 in
    let refusal = c.in_err-image.field-0.0 in
    rw (p.1, p.2) (rewrite_image c.args.image.now c.args.room.now (number_of refusal) (number_of refusal) 0 c.in_err-image.ensures.number (not_zero refusal) refl refl)

pub defaults_of-def-requires : goal.defaults_of-def-requires
defaults_of-def-requires c = passed (goal.at.defaults_of-def-requires c).In_ok-image

pub counts_of-before-requires : goal.counts_of-before-requires
counts_of-before-requires c = passed (goal.at.counts_of-before-requires c).In_ok-image

pub some_share_few-requires : goal.some_share_few-requires
some_share_few-requires c = few (goal.at.some_share_few-requires c).In_ok-image

pub copied-requires : goal.copied-requires
copied-requires c =
    let G = (goal.at.copied-requires c).In_ok-image in
    let L = accepted_laid (bytes G) (accepted G) in
    omega (arith, L.long, L.few_states, L.few_entries, L.few_labels)

pub returns-then-not-some_share_few : goal.returns-then-not-some_share_few
returns-then-not-some_share_few c =
    let I = c.in_ok-image.image in
    let G = (goal.at.returns-then-not-some_share_few c).In_ok-image in
    let weak = weak_by_counts I.bytes.now (readable G) (accepted G) I.n I.k I.states_are I.classes_are c.counts_of-before.result c.defaults_of-def.result c.counts_of-before.ensures c.defaults_of-def.ensures.0 in
    same G _ _ _
    (rewrite_copies I.bytes.now c.args.room.now _ _ _ (accepted G) (none_weak I.bytes.now (readable G) (accepted G) I.n I.k I.states_are I.classes_are (sym weak ∙ sym c.some_share_few.ensures ∙ c.if-not-some_share_few.true)) c.copied.ensures)

pub stay_of-stay-requires : goal.stay_of-stay-requires
stay_of-stay-requires c = few (goal.at.stay_of-stay-requires c).In_ok-image

pub counts_after-counts-requires : goal.counts_after-counts-requires
counts_after-counts-requires c =
    let G = (goal.at.counts_after-counts-requires c).In_ok-image in
    (few G, omega (arith, c.in_ok-image.image.classes_are, (accepted G).few_classes))

pub order_of-requires : goal.order_of-requires
order_of-requires c =
    let I = c.in_ok-image.image in
    let G = (goal.at.order_of-requires c).In_ok-image in
    (few G, stay_range I.bytes.now (readable G) (accepted G) I.n I.k I.states_are I.classes_are c.stay_of-stay.result (stays (goal.at.order_of-requires c).After-stay_of-stay))

pub returns-in_err-chains : goal.returns-in_err-chains
returns-in_err-chains c =
    let I = c.in_ok-image.image in
    let G = (goal.at.returns-in_err-chains c).In_ok-image in
    let ends = stay_ends I.bytes.now (readable G) (accepted G) I.n I.k I.states_are I.classes_are c.stay_of-stay.result (stays (goal.at.returns-in_err-chains c).After-stay_of-stay) in
    let z : true ≡ false = sym (told_applies c.in_err-chains.field-0.0 _ 11 c.in_err-chains.ensures.endless) ∙ ends in
    cc

pub begins_of-begins-requires : goal.begins_of-begins-requires
begins_of-begins-requires c =
    let I = c.in_ok-image.image in
    let G = (goal.at.begins_of-begins-requires c).In_ok-image in
    (accepted_laid I.bytes.now (accepted G), I.states_are, I.entries_are)

pub records_at-records-requires : goal.records_at-records-requires
records_at-records-requires c =
    let I = c.in_ok-image.image in
    (I.states_are, I.entries_are, omega (arith, (accepted (goal.at.records_at-records-requires c).In_ok-image).long, I.states_are, I.entries_are))

pub invariant_of-source : goal.invariant_of-source
invariant_of-source c =
    record {
      readable = readable (goal.at.invariant_of-source c).In_ok-image;
      records_are = c.records_at-records.ensures;
      begins_long = search rules;
      begin = c.begins_of-begins.ensures;
      falls = c.defaults_of-def.ensures.0;
      staying = stays (goal.at.invariant_of-source c).After-stay_of-stay;
    }

pub image_into-requires : goal.image_into-requires
image_into-requires c =
    let I = c.in_ok-image.image in
    let G = (goal.at.image_into-requires c).In_ok-image in
    let b = I.bytes.now in
    let S = stays (goal.at.image_into-requires c).After-stay_of-stay in
    let R = table_reads b (readable G) (accepted G) in
    list_drawn (table_right b (readable G) (accepted G)) (I.states_are ∙ sym R.states_is)
    (stay_range b (readable G) (accepted G) I.n I.k I.states_are I.classes_are c.stay_of-stay.result S)
    (counts_are b (readable G) (accepted G) I.n I.k I.states_are I.classes_are c.stay_of-stay.result S c.counts_of-before.result c.counts_after-counts.result c.counts_of-before.ensures c.counts_after-counts.ensures)
    c.in_ok-chains.ensures.ordered

pub returns : goal.returns
returns c =
    let I = c.in_ok-image.image in
    let G = (goal.at.returns c).In_ok-image in
    let b = I.bytes.now in
    let is = stay_image b (readable G) (accepted G) I.n I.k I.states_are I.classes_are c.stay_of-stay.result (stays (goal.at.returns c).After-stay_of-stay) in
    same G _ _ _ (rewrite_fills b c.args.room.now _ _ _ (accepted G) (subst (λ (x : List ℕ). Fills x c.args.room.now (answer_of c.image_into.result) (length_of c.image_into.result) c.image_into.new.room) (sym is) c.image_into.ensures))
