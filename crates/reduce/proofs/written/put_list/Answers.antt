-- The labels of a state stand where the array says, and are copied.
use Rattle.std.proofs.Common.{◌≡◌, ◌+◌, ◌-◌, ◌*◌, ◌≤◌, length, get_or, take, drop, ap, ◌∙◌, arith}
use Rattle.paper.specs.Words.{all16}
use Rattle.paper.specs.Table.{labels}
use Rattle.words.specs.Placed.{placed}
use Rattle.words.proofs.Lent.{fits_bytes}
use Rattle.naming.proofs.Labels.{run_inside}
use Rattle.reduce.proofs.Labels.{length-all16, two_count, list_copied}
use Rattle.reduce.proofs.written.put_list.Goals as goal
use Rattle.reduce.proofs.written.put_list.Goals.{After-get16}

-- The labels stand in the table, and take two bytes each.
inside : (c : After-get16) → let a = c.args in
    (262 + 2 * get_or a.firsts.now a.x 0 + 2 * c.get16.result ≤ length a.t.now) × (length (all16 (labels a.t.now a.x)) ≡ 2 * c.get16.result)
inside c =
    let a = c.args in
    let t = a.t.now in
    (omega (arith, c.get16.ensures, run_inside t a.firsts.now a.x c.requires.0 c.requires.2 c.requires.3 c.requires.1), omega (arith, c.get16.ensures, length-all16 (labels t a.x), two_count t a.x c.requires.1))

-- What is copied are the labels.
copied : (c : After-get16) → let a = c.args in let from = 262 + 2 * get_or a.firsts.now a.x 0 in
    take (from + 2 * c.get16.result - from) (drop from a.t.now) ≡ all16 (labels a.t.now a.x)
copied c =
    let a = c.args in
    list_copied a.t.now a.firsts.now a.x _ (fits_bytes a.t.now c.type_inv.t) c.requires.0 c.requires.2 c.requires.3 c.requires.1 (omega (arith, c.get16.ensures))

pub slice_bounds-list-end : goal.slice_bounds-list-end
slice_bounds-list-end c = (inside (goal.at.slice_bounds-list-end c).After-get16).0

pub put_bytes-requires : goal.put_bytes-requires
put_bytes-requires c = rw (copied (goal.at.put_bytes-requires c).After-get16) c.requires.4

pub returns : goal.returns
returns c =
    let G = (goal.at.returns c).After-get16 in
    (omega (arith, (inside G).1), c.put_bytes.ensures ∙ ap (placed c.args.room.now c.args.at) (copied G))
