-- What stands there are the classes and the labels of the table.
use Rattle.std.proofs.Common.{◌≡◌, ◌+◌, ◌-◌, ◌*◌, ◌≤◌, length, arith, rules}
use Rattle.rewrite.proofs.Setting.{image_accepted}
use Rattle.rewrite.proofs.Standing.{held_same}
use Rattle.rewrite.proofs.Entries.{labels_stand}
use Rattle.rewrite.proofs.rewriting.RewritingSource.labels.Goals as goal
use Rattle.rewrite.proofs.rewriting.RewritingSource.labels.Goals.{Start}

-- They stand in the image.
inside : (c : Start) → let I = c.args.self.now.image in 268 + 2 * I.n + 2 * c.args.held ≤ length I.bytes.now
inside c =
    let r = c.args.self.now in
    let A = image_accepted r.image in
    omega (arith, A.long, r.image.states_are, c.requires, held_same r.image.bytes.now r.readable A)

pub overflow_mul-result-2 : goal.overflow_mul-result-2
overflow_mul-result-2 c = let h = inside (goal.at.overflow_mul-result-2 c).Start in search (rules, h)

pub overflow_add-result-2 : goal.overflow_add-result-2
overflow_add-result-2 c = let h = inside (goal.at.overflow_add-result-2 c).Start in search (rules, h)

pub slice_bounds-result-end : goal.slice_bounds-result-end
slice_bounds-result-end c = let h = inside (goal.at.slice_bounds-result-end c).Start in search (rules, h)

pub returns : goal.returns
returns c =
    let r = c.args.self.now in
    let I = r.image in
    let e : 268 + 2 * I.n + 2 * c.args.held - 12 ≡ 256 + 2 * I.n + 2 * c.args.held = omega arith in
    rw e (labels_stand I.bytes.now r.readable (image_accepted I) I.n c.args.held I.states_are c.requires)
