-- The loop's invariant: the look-up has come to s after the hops counted. The measure is the steps that are left of the chain.
use Rattle.paper.specs.Patch.{patched_view}
use Rattle.image.proofs.Way.{Way, steps_left}
use Rattle.patchscan.proofs.over.look_up.Given as goal

abbrev pub invariant-loop-target : goal.invariant-loop-target
invariant-loop-target l = Way (patched_view l.over.image.now l.over.x.now) l.state l.class l.s l.hops

abbrev pub decreases-loop-target : goal.decreases-loop-target
decreases-loop-target l = steps_left (patched_view l.over.image.now l.over.x.now) l.s
