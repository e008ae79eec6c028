-- The place and the number of the entries are read, the bytes that have them are chosen, and the part between the begin and the end is the state's.
use mathlib.Core.Path.{◌≡◌, ◌∙◌}
use Prim.Native.Nat.{◌<◌}
use native.Mathlib.Omega.{arith}
use lib.ListN.{get_or}
use Rattle.facts.proofs.PatchFacts.{accepted_patch}
use Rattle.overlaid.specs.Chosen.{bytes_of}
use Rattle.overlaid.proofs.Choosing.{chosen_bytes}
use Rattle.patchscan.specs.Placed.{PlacedRow}
use Rattle.patchscan.proofs.Placed.{cut_reading}
use Rattle.patchscan.proofs.over.row_of.Goals as goal
use Rattle.patchscan.proofs.over.row_of.Goals.{After-either-b, Start}

-- Where the entries of the state stand, and that it is one of the first 512.
row_at_lem : (t : Start) → let o = t.args.over.now in PlacedRow o.image.now o.x.now t.args.s (get_or o.place.now t.args.s 0) (get_or o.left.now t.args.s 0)
row_at_lem t = t.args.over.now.placed t.args.s t.requires

in_lists : (t : Start) → t.args.s < 512
in_lists t = let o = t.args.over.now in omega (arith, t.requires, (accepted_patch o.image.now o.x.now o.accepted).accepted.few_states)

chosen : (c : After-either-b) → let o = c.args.over.now in c.either-b.result.now ≡ bytes_of o.image.now o.x.now c.args.s
chosen c =
    let o = c.args.over.now in
    c.either-b.ensures ∙ chosen_bytes o.image.now o.x.now c.args.s _ (o.slots_are c.args.s c.requires)

pub offset_bounds-over-s : goal.offset_bounds-over-s
offset_bounds-over-s c = omega (arith, in_lists (goal.at.offset_bounds-over-s c).Start)

pub bounds-over-s : goal.bounds-over-s
bounds-over-s c = omega (arith, in_lists (goal.at.bounds-over-s c).Start)

pub overflow_cast-from : goal.overflow_cast-from
overflow_cast-from c = let P = row_at_lem (goal.at.overflow_cast-from c).Start in omega (arith, P.inside, P.small)

pub offset_bounds-over-s-2 : goal.offset_bounds-over-s-2
offset_bounds-over-s-2 c = omega (arith, in_lists (goal.at.offset_bounds-over-s-2 c).Start)

pub bounds-over-s-2 : goal.bounds-over-s-2
bounds-over-s-2 c = omega (arith, in_lists (goal.at.bounds-over-s-2 c).Start)

pub overflow_cast-size : goal.overflow_cast-size
overflow_cast-size c = let P = row_at_lem (goal.at.overflow_cast-size c).Start in omega (arith, P.inside, P.small)

pub overflow_mul-size : goal.overflow_mul-size
overflow_mul-size c = let P = row_at_lem (goal.at.overflow_mul-size c).Start in omega (arith, P.inside, P.small)

pub bounds-over-s-3 : goal.bounds-over-s-3
bounds-over-s-3 c = omega (arith, in_lists (goal.at.bounds-over-s-3 c).Start)

pub overflow_add-result : goal.overflow_add-result
overflow_add-result c = let P = row_at_lem (goal.at.overflow_add-result c).Start in omega (arith, P.inside, P.small)

pub slice_bounds-result-end : goal.slice_bounds-result-end
slice_bounds-result-end c = rw (chosen (goal.at.slice_bounds-result-end c).After-either-b) (row_at_lem (goal.at.slice_bounds-result-end c).Start).inside

pub returns : goal.returns
returns c = cut_reading (row_at_lem (goal.at.returns c).Start) c.either-b.result.now (chosen (goal.at.returns c).After-either-b)
