-- The part between two places of the list of begins is the listed state's.
use native.Mathlib.Omega.{arith}
use Rattle.image.proofs.Places.{Between}
use Rattle.patch.proofs.Parts.{between, part_between}
use Rattle.patch.proofs.entries_of.Goals as goal
use Rattle.patch.proofs.entries_of.Goals.{Start}

-- The two places stand in the patch.
within : (c : Start) → Between c.args.x.now c.args.begins.now c.args.i
within c = between c.requires.0 c.args.i c.requires.2 c.args.begins.now c.requires.1

pub overflow_cast-from : goal.overflow_cast-from
overflow_cast-from c = let w = within (goal.at.overflow_cast-from c).Start in omega (arith, w.rising, w.inside, c.requires.0.shaped.small)

pub overflow_cast-end : goal.overflow_cast-end
overflow_cast-end c = let w = within (goal.at.overflow_cast-end c).Start in omega (arith, w.inside, c.requires.0.shaped.small)

pub slice_bounds-result-count : goal.slice_bounds-result-count
slice_bounds-result-count c = (within (goal.at.slice_bounds-result-count c).Start).rising

pub slice_bounds-result-start : goal.slice_bounds-result-start
slice_bounds-result-start c = (within (goal.at.slice_bounds-result-start c).Start).rising

pub slice_bounds-result-end : goal.slice_bounds-result-end
slice_bounds-result-end c = (within (goal.at.slice_bounds-result-end c).Start).inside

pub returns : goal.returns
returns c = part_between c.requires.0 c.args.i c.requires.2 c.args.begins.now c.requires.1
