use mathlib.Core.Path.{◌∙◌}
use mathlib.Core.List.{◌∷◌, ◌++◌}
use Prim.Native.Nat.{◌+◌}
use native.Mathlib.Omega.{arith}
use lib.ListN.{drop, get_or}
use Rattle.paper.specs.Text.{decimal}
use Rattle.text.specs.Puts.{Holds, Puts}
use Rattle.text.proofs.Puts.{holds_first, holds_then, puts_then, so_far_none, so_far_long, so_far_holds, so_far_more, so_far_all}
use Rattle.text.proofs.Line.{behind, line_begins, behind-next, behind_last}
use Rattle.text.proofs.lent.put_line.Goals as goal
use Rattle.text.proofs.lent.put_line.Goals.{After-put_number-here, Start}

-- The room holds the first number and what stands behind it.
holds_line : (c : Start) → Holds c.args.out.now c.args.at (decimal (get_or c.args.numbers.now 0 0) ++ behind (drop 1 c.args.numbers.now))
holds_line c = rw (line_begins c.args.numbers.now c.requires.0) at c.requires.1

-- After the first number the room holds what stands behind it.
holds_behind : (c : After-put_number-here) → Holds c.put_number-here.new.out c.put_number-here.result (behind (drop 1 c.args.numbers.now))
holds_behind c =
    holds_then c.put_number-here.ensures (behind (drop 1 c.args.numbers.now)) (holds_line (goal.at.After-put_number-here c).Start)

pub put_number-here-requires : goal.put_number-here-requires
put_number-here-requires c =
    holds_first c.args.out.now c.args.at (decimal (get_or c.args.numbers.now 0 0)) (behind (drop 1 c.args.numbers.now)) (holds_line (goal.at.put_number-here-requires c).Start)

pub loop-i-init : goal.loop-i-init
loop-i-init c = (omega arith, so_far_none _ _ _)

pub put_next-here-requires : goal.put_next-here-requires
put_next-here-requires c =
    let numbers = c.args.numbers.now in
    let rest = so_far_holds c.loop-i.invariant.1 (holds_behind (goal.at.put_next-here-requires c).After-put_number-here) in
    holds_first c.loop-i.out c.loop-i.here (32 ∷ decimal (get_or numbers c.loop-i.i 0)) (behind (drop (c.loop-i.i + 1) numbers)) (rw (behind-next numbers c.loop-i.i c.loop-i-test.true) at rest)

pub loop-i-preserved : goal.loop-i-preserved
loop-i-preserved c =
    let numbers = c.args.numbers.now in
    let less = c.loop-i-test.true in
    (omega arith, so_far_more c.loop-i.invariant.1 (holds_behind (goal.at.loop-i-preserved c).After-put_number-here) (32 ∷ decimal (get_or numbers c.loop-i.i 0)) (behind (drop (c.loop-i.i + 1) numbers)) (behind-next numbers c.loop-i.i less) c.put_next-here.ensures)

pub put_end-requires : goal.put_end-requires
put_end-requires c =
    let numbers = c.args.numbers.now in
    rw (behind_last numbers c.loop-i.i c.loop-i-test.false) at (so_far_holds c.loop-i.invariant.1 (holds_behind (goal.at.put_end-requires c).After-put_number-here))

pub shape_of-out : goal.shape_of-out
shape_of-out c =
    c.out-2-1.given ∙ so_far_long c.loop-i.invariant.1 (holds_behind (goal.at.shape_of-out c).After-put_number-here) ∙ c.out-1.given

pub returns : goal.returns
returns c =
    let numbers = c.args.numbers.now in
    let last : Puts c.loop-i.out c.loop-i.here (behind (drop c.loop-i.i numbers)) c.put_end.new.out c.put_end.result = rw (behind_last numbers c.loop-i.i c.loop-i-test.false) c.put_end.ensures in
    let all = so_far_all c.loop-i.invariant.1 (holds_behind (goal.at.returns c).After-put_number-here) last in
    rw (line_begins numbers c.requires.0) (puts_then c.put_number-here.ensures (holds_line (goal.at.returns c).Start) all)
