use Rattle.std.proofs.Common.{◌<◌, length, arith, rules, length-set}
use Rattle.joining.proofs.Turned.{turns_start, turns_go, turns_top, turns_end, low_set}
use Rattle.joining.proofs.turned_to.Goals as goal

pub loop-k-init : goal.loop-k-init
loop-k-init c = record { place = omega arith; place_back = omega arith; long = search rules; low = c.requires.1; turns = turns_start _ _ }

pub returns-then-next-at : goal.returns-then-next-at
returns-then-next-at c =
    let l = c.loop-k in
    let i = l.invariant in
    let long : l.at < length l.parent = omega arith in (
      low_set l.parent l.at l.back long i.place_back i.low,
      turns_top _ _ l.parent l.back l.at l.k i.turns long _ c.if-next-at.true,
    )

pub loop-k-preserved : goal.loop-k-preserved
loop-k-preserved c =
    let l = c.loop-k in
    let i = l.invariant in
    let long : l.at < length l.parent = omega arith in
    record {
      place = i.low l.at i.place;
      place_back = i.place;
      long = simp length-set i.long;
      low = low_set l.parent l.at l.back long i.place_back i.low;
      turns = turns_go _ _ l.parent l.back l.at l.k i.turns long c.if-next-at.false;
    }

pub returns : goal.returns
returns c =
    let l = c.loop-k in
    let i = l.invariant in
    let long : l.at < length l.parent = omega arith in (
      low_set l.parent l.at l.back long i.place_back i.low,
      turns_end _ _ l.parent l.back l.at l.k i.turns long _ (omega arith),
    )
