-- The loop's invariant: none of the first s records is wrong.
use mathlib.Core.Path.{◌≡◌}
use mathlib.Core.Bool.{false}
use Prim.Native.Nat.{◌≤◌, ◌-◌}
use Rattle.paper.specs.Below.{any}
use Rattle.paper.specs.View.{record_bad_of}
use Rattle.paper.specs.Image.{image_view}
use Rattle.contents.proofs.in_records.some_record_bad.Given as goal

abbrev pub invariant-loop-s : goal.invariant-loop-s
invariant-loop-s l = any l.s (record_bad_of (image_view l.b)) ≡ false
