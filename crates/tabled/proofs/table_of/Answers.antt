-- What is counted gives the length; a shorter room is refused, any other is filled.
use Rattle.std.proofs.Common.{◌≡◌, ◌+◌, ◌*◌, ◌≤◌, get_or, arith}
use Rattle.paper.specs.Below.{sum}
use Rattle.tabled.specs.Sized.{Sized}
use Rattle.tabled.proofs.Ways.{not_long, room_short, room_enough, room-filled}
use Rattle.tabled.proofs.table_of.Goals as goal
use Rattle.tabled.proofs.table_of.Goals.{After-sum_of-held}

-- What is counted.
sized : (g : After-sum_of-held) → let a = g.args in let n = a.named.now.names.now in
    Sized a.named.now.list.now.bytes.now a.named.now.list.now.starts a.named.now.list.now.count n.count a.classes.now.count n.from n.long g.counts-counts.result
sized g =
    let H = g.requires.0 in
    record { begun = g.args.named.now.list.now.begun; states_are = H.counted; classes_are = g.requires.1; named = H.named; counted = g.counts-counts.ensures }

-- The table is not long.
short : (g : After-sum_of-held) → let n = g.args.named.now.names.now.count in (2 * (n * g.args.classes.now.count) ≤ 262144) × (2 * g.sum_of-held.result ≤ 65536) × (n ≤ 512)
short g =
    let (p, q) = not_long (sized g) g.requires.0.few in
    (p, omega (arith, g.sum_of-held.ensures), g.requires.0.few)

-- The length that was reckoned.
reckoned : (g : After-sum_of-held) → let n = g.args.named.now.names.now.count in let k = g.args.classes.now.count in
    262 + 2 * n + 2 * g.sum_of-held.result + 2 * (n * k) ≡ 262 + 2 * n + 2 * sum n (λ s. get_or g.counts-counts.result s 0) + 2 * (n * k)
reckoned g = omega (arith, g.sum_of-held.ensures)

pub returns-then-room-whole : goal.returns-then-room-whole
returns-then-room-whole c =
    room_short (sized (goal.at.returns-then-room-whole c).After-sum_of-held) c.requires.0.few c.args.room.now _ (reckoned (goal.at.returns-then-room-whole c).After-sum_of-held) c.if-room-whole.true

pub write_table-requires : goal.write_table-requires
write_table-requires c =
    (c.requires.0, sized (goal.at.write_table-requires c).After-sum_of-held, c.requires.2, room_enough (sized (goal.at.write_table-requires c).After-sum_of-held) c.requires.0.few c.args.room.now _ (reckoned (goal.at.write_table-requires c).After-sum_of-held) c.if-room-whole.false)

pub overflow_cast-result : goal.overflow_cast-result
overflow_cast-result c =
    omega (arith, short (goal.at.overflow_cast-result c).After-sum_of-held)

pub returns : goal.returns
returns c =
    room-filled (sized (goal.at.returns c).After-sum_of-held) c.requires.0.few c.args.room.now _ (reckoned (goal.at.returns c).After-sum_of-held) _ c.if-room-whole.false c.write_table.ensures
