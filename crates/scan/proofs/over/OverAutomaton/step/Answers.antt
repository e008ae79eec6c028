-- The byte's class is looked up: what is found is a state of the image, in few hops.
use mathlib.Core.Path.{refl}
use native.Mathlib.Omega.{arith}
use Rattle.facts.proofs.ImageFacts.{AcceptedImage, accepted_image}
use Rattle.scan.proofs.OneByte.{class_in, byte_reached}
use Rattle.scan.proofs.over.OverAutomaton.step.Goals as goal
use Rattle.scan.proofs.over.OverAutomaton.step.Goals.{Start}

accepted : (t : Start) → AcceptedImage t.args.self.now.lookup.image.now
accepted t = accepted_image t.args.self.now.lookup.image.now t.args.self.now.lookup.accepted

pub bounds-self-byte : goal.bounds-self-byte
bounds-self-byte c = omega (arith, (accepted (goal.at.bounds-self-byte c).Start).long, c.ranges.byte)

pub look_up-found-requires : goal.look_up-found-requires
look_up-found-requires c =
    (c.requires, class_in c.args.self.now.lookup.image.now (accepted (goal.at.look_up-found-requires c).Start) c.args.byte _ (omega (arith, c.ranges.byte)) refl)

pub returns-clause-reached : goal.returns-clause-reached
returns-clause-reached c =
    rw (c.look_up-found.ensures.0, c.look_up-found.ensures.1)
    (byte_reached c.args.self.now.lookup.image.now (accepted (goal.at.returns-clause-reached c).Start) c.args.state c.args.byte c.requires (omega (arith, c.ranges.byte)))
