use Rattle.std.proofs.Common.{◌≡◌, ℕ, ◌<◌, ◌++◌, refl, ap, ◌∙◌, arith, rules}
use Rattle.paper.specs.Words.{bytes16}
use Rattle.paper.specs.Image.{states, image_view}
use Rattle.image.proofs.Passed.{accepted_passed}
use Rattle.words.specs.Placed.{placed}
use Rattle.abreast.proofs.Cursors.{cursor_start}
use Rattle.sweep.proofs.Places.{cursor_fits, taken}
use Rattle.words.proofs.Laid.{laid_none, laid_room, laid_more}
use Rattle.rewrite.proofs.Setting.{image_accepted}
use Rattle.rewrite.proofs.Entries.{length-root}
use Rattle.rewrite.proofs.rewriting.Rewriting.put_root.Goals as goal
use Rattle.rewrite.proofs.rewriting.Rewriting.put_root.Goals.{Start}

-- The state is one of the image's, and below 512.
within : (c : Start) → (c.args.s < states c.args.self.now.image.bytes.now) × (c.args.s < 512)
within c =
    let I = c.args.self.now.image in
    (omega (arith, I.states_are, c.requires.0), omega (arith, I.states_are, (image_accepted I).few_states, c.requires.0))

pub overflow_add-end : goal.overflow_add-end
overflow_add-end c = omega (arith, (within (goal.at.overflow_add-end c).Start).1)

pub bounds-self-s : goal.bounds-self-s
bounds-self-s c = omega (arith, (within (goal.at.bounds-self-s c).Start).1)

pub bounds-self-s-2 : goal.bounds-self-s-2
bounds-self-s-2 c = omega (arith, (within (goal.at.bounds-self-s-2 c).Start).1)

pub loop-c-init : goal.loop-c-init
loop-c-init c =
    let r = c.args.self.now in
    ((0, r.begin c.args.s (omega (arith, within (goal.at.loop-c-init c).Start)), cursor_start (image_view r.image.bytes.now) c.args.s), laid_none _ _ _ _ refl)

pub overflow_cast-class : goal.overflow_cast-class
overflow_cast-class c = let I = c.args.self.now.image in omega (arith, I.classes_are, (image_accepted I).few_classes, c.loop-c-test.true)

pub own_at-x-requires : goal.own_at-x-requires
own_at-x-requires c =
    let l = c.loop-c in
    let r = c.args.self.now in
    let fits = cursor_fits (accepted_passed r.image.bytes.now (image_accepted r.image)) r.begins.now r.begin l.c c.args.s l.from (within (goal.at.own_at-x-requires c).Start).0 l.invariant.0 in
    (fits.0, fits.1)

pub next_of-next-requires : goal.next_of-next-requires
next_of-next-requires c =
    let l = c.loop-c in
    let r = c.args.self.now in
    let K = taken (accepted_passed r.image.bytes.now (image_accepted r.image)) r.begins.now r.begin l.c c.args.s l.from (within (goal.at.next_of-next-requires c).Start).0 l.invariant.0 c.own_at-x.result c.own_at-x.ensures in
    (c.requires.0, c.loop-c-test.true, K.stores)

pub put_pair-requires : goal.put_pair-requires
put_pair-requires c =
    let l = c.loop-c in
    let I = c.args.self.now.image in
    omega (arith, laid_room l.invariant.1 I.k c.loop-c-test.true c.requires.1, length-root I.bytes.now c.args.s l.c)

pub next_place-from-requires : goal.next_place-from-requires
next_place-from-requires c =
    let l = c.loop-c in
    let r = c.args.self.now in
    (cursor_fits (accepted_passed r.image.bytes.now (image_accepted r.image)) r.begins.now r.begin l.c c.args.s l.from (within (goal.at.next_place-from-requires c).Start).0 l.invariant.0).2

pub overflow_add-here : goal.overflow_add-here
overflow_add-here c =
    let l = c.loop-c in
    let I = c.args.self.now.image in
    search (rules, laid_room l.invariant.1 I.k c.loop-c-test.true c.requires.1, length-root I.bytes.now c.args.s l.c, l.invariant.1.as_long)

pub loop-c-preserved : goal.loop-c-preserved
loop-c-preserved c =
    let l = c.loop-c in
    let r = c.args.self.now in
    let b = r.image.bytes.now in
    let x = c.own_at-x in
    let K = taken (accepted_passed b (image_accepted r.image)) r.begins.now r.begin l.c c.args.s l.from (within (goal.at.loop-c-preserved c).Start).0 l.invariant.0 x.result x.ensures in (
      rw c.next_place-from.ensures K.stands,
      laid_more l.invariant.1 r.image.k c.loop-c-test.true c.requires.1 _ _ (omega (arith, length-root b c.args.s l.c))
          (c.put_pair.ensures ∙ ap (λ (y : ℕ). placed l.room l.here (bytes16 l.c ++ bytes16 y)) c.next_of-next.ensures),
    )

pub returns : goal.returns
returns c =
    let l = c.loop-c in
    let e : l.c ≡ c.args.self.now.image.k = omega arith in
    (rw e at l.invariant.1.ends, rw e at l.invariant.1.laid)
