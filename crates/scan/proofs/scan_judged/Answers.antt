-- The arrays are filled for the image, which is ready to be scanned with them.
use native.Mathlib.Omega.{arith}
use Rattle.facts.proofs.ImageFacts.{AcceptedImage, accepted_image}
use Rattle.image.proofs.Accepted.{accepted_laid}
use Rattle.scan.proofs.scan_judged.Goals as goal
use Rattle.scan.proofs.scan_judged.Goals.{Start}

accepted : (t : Start) → AcceptedImage t.args.image.now.bytes.now
accepted t = accepted_image t.args.image.now.bytes.now t.args.image.now.accepted

pub begins_of-begins-requires : goal.begins_of-begins-requires
begins_of-begins-requires c =
    let i = c.args.image.now in
    (accepted_laid i.bytes.now (accepted (goal.at.begins_of-begins-requires c).Start), i.states_are, i.entries_are)

pub records_at-records-requires : goal.records_at-records-requires
records_at-records-requires c =
    let i = c.args.image.now in
    (i.states_are, i.entries_are, omega (arith, (accepted (goal.at.records_at-records-requires c).Start).long, i.states_are, i.entries_are))

pub firsts-requires : goal.firsts-requires
firsts-requires c =
    let i = c.args.image.now in
    let A = accepted (goal.at.firsts-requires c).Start in
    (omega (arith, i.states_are, A.few_states), omega (arith, i.states_are, A.long), rw (i.states_are, c.requires.0) (accepted_laid i.bytes.now A).few_labels)

pub scan_accepted-requires : goal.scan_accepted-requires
scan_accepted-requires c =
    let i = c.args.image.now in (
      record { accepted = accepted (goal.at.scan_accepted-requires c).Start; begin = c.begins_of-begins.ensures; records_is = c.records_at-records.ensures; classes_is = i.classes_are },
      record { edition_is = c.requires.0; firsts_are = rw (← i.states_are, ← c.requires.0) c.firsts.ensures },
      omega (arith, i.states_are, c.requires.1),
      c.requires.2,
    )
