use Rattle.std.proofs.Common.{◌≡◌, ◌+◌, ◌≤◌, ◌<◌, length, get_or, set, refl, arith}
use Rattle.paper.specs.Words.{byte_at}
use Rattle.paper.specs.Strings.{size}
use Rattle.strings.proofs.Putting.{put_in, up_to}
use Rattle.strings.proofs.Spread.{spread}
use Rattle.grow.proofs.Turns.{Put, put_short, put_full, put_turn, string_place, bytes_length, byte_read, byte_alone, all_next}
use Rattle.grow.proofs.put_string.Goals as goal
use Rattle.grow.proofs.put_string.Goals.{After-string-a-items, In-loop-a, In_ok-p}

-- The bytes of the string stand in the list.
inside : (c : After-string-a-items) → let b = c.args.list.now.bytes.now in
    (get_or c.args.list.now.starts c.args.i 0 + 4 + size b c.args.i ≤ length b) × (size b c.args.i ≤ 32) × (length c.string-a-items.result.now ≡ size b c.args.i)
inside c =
    let list = c.args.list.now in
    let b = list.bytes.now in
    let i = c.args.i in
    let h : i < list.count = c.requires.0 in
    let (p, q, r) = string_place b list.starts list.count list.begun i h in
    (p, r, bytes_length b list.starts list.count list.begun i h c.string-a-items.result.now c.string-a-items.ensures)

-- The byte is the next of the list.
next : (c : In-loop-a) → get_or c.string-a-items.result.now c.loop-a.a-index 0 ≡ byte_at c.args.list.now.bytes.now (get_or c.args.list.now.starts c.args.i 0 + 4 + c.loop-a.a-index)
next c =
    let list = c.args.list.now in
    byte_read list.bytes.now list.starts list.count list.begun c.args.i c.requires.0 c.string-a-items.result.now c.string-a-items.ensures c.loop-a.a-index c.loop-a-test.true

-- With the byte put in the arrays hold one beginning more.
turned : (c : In_ok-p) → let list = c.args.list.now in let at = get_or list.starts c.args.i 0 + 4 in let k = c.step_in.new in
    Put list.bytes.now (up_to list.bytes.now c.args.i) at (c.loop-a.a-index + 1) (spread c.args.classes.now.of k.rows) k.self.parent k.self.last k.self.long (set c.loop-a.names.from c.in_ok-p.p at) k.self.count c.in_ok-p.p
turned c =
    let list = c.args.list.now in
    let b = list.bytes.now in
    let at = get_or list.starts c.args.i 0 + 4 in
    let m = c.loop-a.names in
    let k = c.step_in.new in
    let P = c.loop-a.invariant in
    let j = c.loop-a.a-index in
    let (q, r, l) = inside (goal.at.In_ok-p c).After-string-a-items in
    put_turn b (up_to b c.args.i) at j (spread c.args.classes.now.of c.loop-a.rows) m.parent m.last m.long m.from m.count c.loop-a.p (get_or c.string-a-items.result.now j 0) (next (goal.at.In_ok-p c).In-loop-a) (omega arith) P
    c.in_ok-p.p k.self.count (spread c.args.classes.now.of k.rows) k.self.parent k.self.last k.self.long (c.in_ok-p.ensures.stepped (put_in b at (up_to b c.args.i) j) P.holds.counted P.holds.grown) m.room k.self.few

pub overflow_add-at : goal.overflow_add-at
overflow_add-at c =
    let list = c.args.list.now in
    omega (arith, string_place list.bytes.now list.starts list.count list.begun c.args.i c.requires.0)

pub step_in-requires : goal.step_in-requires
step_in-requires c =
    let list = c.args.list.now in
    let b = list.bytes.now in
    let m = c.loop-a.names in
    let j = c.loop-a.a-index in
    let s = c.string-a-items.result.now in
    let P = c.loop-a.invariant in
    let (q, r, l) = inside (goal.at.step_in-requires c).After-string-a-items in (
      byte_alone b list.starts list.count list.begun c.args.i c.requires.0 s c.string-a-items.ensures c.args.classes.now.of c.requires.1 j c.loop-a-test.true (omega (arith, c.type_inv.a-items j)),
      P.here,
      omega (arith, put_short b (up_to b c.args.i) (get_or list.starts c.args.i 0 + 4) j (spread c.args.classes.now.of c.loop-a.rows) m.parent m.last m.long m.from m.count c.loop-a.p (omega arith) P),
    )

pub returns-in_err-p : goal.returns-in_err-p
returns-in_err-p c =
    let list = c.args.list.now in
    let b = list.bytes.now in
    let at = get_or list.starts c.args.i 0 + 4 in
    let m = c.loop-a.names in
    let P = c.loop-a.invariant in
    let j = c.loop-a.a-index in
    let (q, r, l) = inside (goal.at.returns-in_err-p c).After-string-a-items in
    rw (c.from_residual.ensures, all_next b list.starts list.count list.begun c.args.i c.requires.0 (size b c.args.i) refl)
    (put_full b (up_to b c.args.i) at j (spread c.args.classes.now.of c.loop-a.rows) m.parent m.last m.long m.from m.count c.loop-a.p (get_or c.string-a-items.result.now j 0) (next (goal.at.returns-in_err-p c).In-loop-a) (omega arith) P
    (size b c.args.i) (omega arith) (c.in_err-p.ensures.stepped (put_in b at (up_to b c.args.i) j) P.holds.counted P.holds.grown))

pub offset_bounds-names-p : goal.offset_bounds-names-p
offset_bounds-names-p c = omega (arith, (turned (goal.at.offset_bounds-names-p c).In_ok-p).here, c.step_in.new.self.few)

pub bounds-names-p : goal.bounds-names-p
bounds-names-p c = omega (arith, (turned (goal.at.bounds-names-p c).In_ok-p).here, c.step_in.new.self.few)

pub loop-a-preserved : goal.loop-a-preserved
loop-a-preserved c = rw c.in_ok-p.ensures.places (turned (goal.at.loop-a-preserved c).In_ok-p)

pub returns : goal.returns
returns c =
    let list = c.args.list.now in
    let b = list.bytes.now in
    let (q, r, l) = inside (goal.at.returns c).After-string-a-items in
    rw (all_next b list.starts list.count list.begun c.args.i c.requires.0 c.loop-a.a-index (omega arith)) c.loop-a.invariant.holds
