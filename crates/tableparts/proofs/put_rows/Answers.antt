use Rattle.std.proofs.Common.{◌≡◌, ◌+◌, ◌*◌, ◌-◌, ◌≤◌, length, refl, ap, ◌∙◌, arith}
use borrow.Rule.Slice.PartMut.{mid_of}
use Rattle.paper.specs.Words.{all16}
use Rattle.tableparts.specs.Pieces.{row_bytes}
use Rattle.words.specs.Placed.{placed}
use Rattle.words.proofs.Laid.{laid_none, laid_room, laid_more}
use Rattle.tableparts.proofs.Written.{length-row, length-rows, row_numbers, row_long}
use Rattle.tableparts.proofs.put_rows.Goals as goal
use Rattle.tableparts.proofs.put_rows.Goals.{In-loop-s}

-- There is room for one row more.
fits : (c : In-loop-s) → c.loop-s.here + 2 * c.args.k ≤ length c.loop-s.room
fits c =
    let a = c.args in
    omega (
      arith,
      laid_room c.loop-s.invariant a.n c.loop-s-test.true (omega (arith, c.requires.2, length-rows a.rows.now a.k a.n)),
      length-row a.rows.now a.k c.loop-s.s,
    )

-- The row stands in the array.
row : (c : In-loop-s) → let s = c.loop-s.s in let k = c.args.k in
    (length (mid_of (s * 256) (s * 256 + k - s * 256) c.args.rows.now) ≡ k) × (all16 (mid_of (s * 256) (s * 256 + k - s * 256) c.args.rows.now) ≡ row_bytes c.args.rows.now k s)
row c =
    let s = c.loop-s.s in
    let k = c.args.k in
    let m = s * 256 + k - s * 256 in
    let e : m ≡ k = omega arith in
    let h : s * 256 + k ≤ length c.args.rows.now = omega arith in
    (row_long c.args.rows.now k s m e h, row_numbers c.args.rows.now k s m e h)

pub loop-s-init : goal.loop-s-init
loop-s-init c = laid_none _ _ _ _ refl

pub put_numbers-requires : goal.put_numbers-requires
put_numbers-requires c =
    let (r, k) = row (goal.at.put_numbers-requires c).In-loop-s in
    omega (arith, fits (goal.at.put_numbers-requires c).In-loop-s, r)

pub overflow_add-here : goal.overflow_add-here
overflow_add-here c = omega (arith, fits (goal.at.overflow_add-here c).In-loop-s, c.loop-s.invariant.as_long, c.well_formed)

pub loop-s-preserved : goal.loop-s-preserved
loop-s-preserved c =
    let a = c.args in
    let s = c.loop-s.s in
    laid_more c.loop-s.invariant a.n c.loop-s-test.true (omega (arith, c.requires.2, length-rows a.rows.now a.k a.n)) _ _ (omega (arith, length-row a.rows.now a.k s))
    (c.put_numbers.ensures ∙ ap (placed c.loop-s.room c.loop-s.here) (row (goal.at.loop-s-preserved c).In-loop-s).1)
