-- The loop's invariant: both columns count what was taken of the look-ups so far, and the rest goes on from the running state.
use Prim.Native.Nat.{◌<◌}
use Rattle.paper.specs.Image.{states}
use Rattle.counting.specs.Columns.{server_of, running_of}
use Rattle.counting.proofs.Counting.{SoFar}
use Rattle.counting.proofs.count_bytes.Given as goal

abbrev pub invariant-loop-byte : goal.invariant-loop-byte
invariant-loop-byte l =
    (l.state < states l.image) × SoFar server_of l.image l.payload l.state l.byte-index l.served × SoFar running_of l.image l.payload l.state l.byte-index l.ran
