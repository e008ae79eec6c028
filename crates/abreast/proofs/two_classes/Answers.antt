use Rattle.std.proofs.Common.{refl, sym, true≢false, get_or}
use Rattle.abreast.proofs.Going.{going_start, going_asks, going_found, going_more, going_done}
use Rattle.abreast.proofs.two_classes.Goals as goal

pub loop-i-init : goal.loop-i-init
loop-i-init g c = let p = c.requires in going_start (g.E.Entries.bytes c.args.entries.now) p.0 p.1 p.2 p.4 p.5 p.6

pub turn-requires : goal.turn-requires
turn-requires g c =
    let p = c.requires in
    rw c.bytes_of-b.ensures
    (going_asks (g.E.Entries.bytes c.args.entries.now) p.0 p.1 p.2 c.loop-i.invariant c.loop-i-test.true (get_or c.args.order.now c.loop-i.i 0) refl p.3)

pub returns-then-turn : goal.returns-then-turn
returns-then-turn g c =
    let p = c.requires in
    let (L, found, _) = rw c.bytes_of-b.ensures at c.turn.ensures in (
      L,
      λ _. going_found (g.E.Entries.bytes c.args.entries.now) p.0 p.1 p.2 c.loop-i.invariant c.loop-i-test.true (get_or c.args.order.now c.loop-i.i 0) refl (found c.if-turn.true),
      λ w. absurd (true≢false w),
    )

pub loop-i-preserved : goal.loop-i-preserved
loop-i-preserved g c =
    let p = c.requires in
    let (L, _, turned) = rw c.bytes_of-b.ensures at c.turn.ensures in
    going_more (g.E.Entries.bytes c.args.entries.now) p.0 p.1 p.2 c.loop-i.invariant c.loop-i-test.true (get_or c.args.order.now c.loop-i.i 0) refl (turned c.if-turn.false) L

pub returns : goal.returns
returns g c =
    let p = c.requires in
    (c.loop-i.invariant.long, λ w. absurd (true≢false (sym w)), λ _. going_done (g.E.Entries.bytes c.args.entries.now) p.0 p.1 p.2 c.loop-i.invariant c.loop-i-test.false)
