-- The byte's class is looked up: what is found is a state of the image, in few hops.
use mathlib.Core.Path.{refl}
use native.Mathlib.Omega.{arith}
use Rattle.facts.proofs.PatchFacts.{AcceptedPatch, accepted_patch}
use Rattle.scan.proofs.OneByte.{class_in}
use Rattle.patchscan.proofs.Found.{byte_reached}
use Rattle.patchscan.proofs.over.OverAutomaton.step.Goals as goal
use Rattle.patchscan.proofs.over.OverAutomaton.step.Goals.{Start}

accepted : (t : Start) → AcceptedPatch t.args.self.now.image.now t.args.self.now.x.now
accepted t = accepted_patch t.args.self.now.image.now t.args.self.now.x.now t.args.self.now.accepted

pub bounds-self-byte : goal.bounds-self-byte
bounds-self-byte c = omega (arith, (accepted (goal.at.bounds-self-byte c).Start).accepted.long, c.ranges.byte)

pub look_up-found-requires : goal.look_up-found-requires
look_up-found-requires c =
    (c.requires, class_in c.args.self.now.image.now (accepted (goal.at.look_up-found-requires c).Start).accepted c.args.byte _ (omega (arith, c.ranges.byte)) refl)

pub returns-clause-reached : goal.returns-clause-reached
returns-clause-reached c =
    rw (c.look_up-found.ensures.0, c.look_up-found.ensures.1) (byte_reached (accepted (goal.at.returns-clause-reached c).Start) c.args.state c.args.byte c.requires (omega (arith, c.ranges.byte)))
