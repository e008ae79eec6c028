use Rattle.std.proofs.Common.{arith}
use Rattle.strings.proofs.Spread.{spread, spread_empty}
use Rattle.grow.proofs.Turns.{all_none, all_names, all_full}
use Rattle.grow.proofs.put_all.Goals as goal

pub loop-i-init : goal.loop-i-init
loop-i-init c =
    let a = c.args in
    let n = a.names.now in
    all_none a.list.now.bytes.now (spread a.classes.now.of a.rows.now) n.parent n.last n.long n.from (spread_empty a.classes.now.of a.rows.now c.requires.1) c.requires.2 c.requires.3

pub returns-in_err-put_string : goal.returns-in_err-put_string
returns-in_err-put_string c =
    let list = c.args.list.now in
    rw c.from_residual.ensures (all_full list.bytes.now list.starts list.count list.begun c.loop-i.i c.loop-i-test.true c.in_err-put_string.ensures)

pub returns : goal.returns
returns c =
    let list = c.args.list.now in
    rw (← all_names list.bytes.now list.starts list.count list.begun c.loop-i.i (omega arith)) c.loop-i.invariant
