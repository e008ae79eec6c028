-- The loop's invariant: the look-up has come to s after the hops counted. The measure is the steps that are left of the chain.
use Rattle.paper.specs.Image.{image_view}
use Rattle.image.proofs.Way.{Way, steps_left}
use Rattle.image.proofs.look_up.Given as goal

abbrev pub invariant-loop-target : goal.invariant-loop-target
invariant-loop-target l = Way (image_view l.image) l.state l.class l.s l.hops

abbrev pub decreases-loop-target : goal.decreases-loop-target
decreases-loop-target l = steps_left (image_view l.image) l.s
