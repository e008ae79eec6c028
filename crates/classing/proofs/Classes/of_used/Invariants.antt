-- The loop's invariant: the classes of the first x bytes are noted, and `count` is the next class, whatever list has these bytes.
use Rattle.std.proofs.Common.{List}
use Rattle.paper.specs.Strings.{Rule}
use Rattle.strings.proofs.Marked.{Marked}
use Rattle.classing.proofs.Turns.{Noted}
use Rattle.classing.proofs.Classes.of_used.Given as goal

abbrev pub invariant-loop-x : goal.invariant-loop-x
invariant-loop-x l = (rs : List Rule) → Marked rs l.used → Noted rs l.of l.count l.x
