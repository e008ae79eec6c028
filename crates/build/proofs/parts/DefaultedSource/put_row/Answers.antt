use Rattle.std.proofs.Common.{◌≡◌, ◌+◌, ◌≤◌, ◌<◌, length, get_or, refl, arith}
use Rattle.paper.specs.Below.{each}
use Rattle.paper.specs.Table.{classes}
use Rattle.words.proofs.Laid.{laid_none, laid_room, laid_more}
use Rattle.build.specs.Pieces.{kept_entry}
use Rattle.build.proofs.parts.DefaultedSource.put_row.Goals as goal
use Rattle.build.proofs.parts.DefaultedSource.put_row.Goals.{Start}

-- The state is one of the table's, and there is room for its k classes.
within : (c : Start) → let a = c.args in let t = a.self.now.table.table in
    (a.s < t.n) × (a.at + length (each t.k (kept_entry t.bytes.now (get_or a.self.now.def.now a.s 0) a.s)) ≤ length a.room.now)
within c =
    let C = c.args.self.now.table.table.counted in
    (omega (arith, C.states_are, c.requires.0), rw C.classes_are c.requires.1)

pub loop-c-init : goal.loop-c-init
loop-c-init c = laid_none _ _ _ _ refl

pub put_entry-here-requires : goal.put_entry-here-requires
put_entry-here-requires c =
    let less = c.loop-c-test.true in
    let W = within (goal.at.put_entry-here-requires c).Start in
    (W.0, less, c.args.self.now.range c.args.s W.0, laid_room c.loop-c.invariant c.args.self.now.table.table.k less W.1)

pub loop-c-preserved : goal.loop-c-preserved
loop-c-preserved c =
    laid_more c.loop-c.invariant c.args.self.now.table.table.k c.loop-c-test.true (within (goal.at.loop-c-preserved c).Start).1 _ _ c.put_entry-here.ensures.0 c.put_entry-here.ensures.1

pub returns : goal.returns
returns c =
    let l = c.loop-c in
    let e : l.c ≡ classes c.args.self.now.table.table.bytes.now = omega (arith, c.args.self.now.table.table.counted.classes_are) in
    (rw e at l.invariant.ends, rw e at l.invariant.laid)
