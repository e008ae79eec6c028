-- The loop's invariant: no entry of the first s states is wrong.
use mathlib.Core.Path.{◌≡◌}
use mathlib.Core.Bool.{Bool, false}
use mathlib.Core.List.{List}
use Prim.Native.Nat.{ℕ, ◌≤◌, ◌-◌}
use Rattle.paper.specs.Below.{any}
use Rattle.paper.specs.View.{entry_class_bad}
use Rattle.paper.specs.Image.{count, image_view}
use Rattle.contents.proofs.in_entries.entry_classes_bad.Given as goal

-- Some entry of a state is wrong.
abbrev pub wrong : List ℕ → ℕ → Bool
wrong b s = any (count b s) (entry_class_bad (image_view b) s)

abbrev pub invariant-loop-s : goal.invariant-loop-s
invariant-loop-s l = any l.s (wrong l.b) ≡ false
