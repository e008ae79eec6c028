-- The row of the default, if there is one, is copied, and what the state stores is put over it.
use Rattle.std.proofs.Common.{◌+◌, ◌*◌, arith}
use Rattle.image.proofs.Accepted.{accepted_laid, part_row}
use Rattle.spread.specs.Rows.{row_at, Setting}
use Rattle.spread.proofs.Kept.{kept_then}
use Rattle.spread.proofs.Rows.{row_in, default_below}
use Rattle.spread.proofs.Set.{setting, small, below}
use Rattle.spread.proofs.Standing.{row_stands}
use Rattle.spread.proofs.Spread.put_row.Goals as goal
use Rattle.spread.proofs.Spread.put_row.Goals.{Start}

-- The struct and the room are a setting.
set : (c : Start) → let a = c.args.self.now in Setting a.image.bytes.now a.first a.image.k a.begins.now a.def.now c.args.room.now
set c = setting c.args.self.now c.args.room.now c.requires.0

pub copy_default-requires : goal.copy_default-requires
copy_default-requires c =
    let S = set (goal.at.copy_default-requires c).Start in
    let s = c.args.s in
    let h = below c.args.self.now c.requires.1 in
    (row_in S s h, λ d e. row_in S d (default_below S s h d e))

pub entries_of-requires : goal.entries_of-requires
entries_of-requires c =
    let S = set (goal.at.entries_of-requires c).Start in
    (accepted_laid c.args.self.now.image.bytes.now S.accepted, S.begin, below c.args.self.now c.requires.1)

pub row_at-requires : goal.row_at-requires
row_at-requires c = let m = small c.args.self.now in (m.0, m.1, omega (arith, m.2))

pub put_entries-requires : goal.put_entries-requires
put_entries-requires c =
    let S = set (goal.at.put_entries-requires c).Start in
    let a = c.args.self.now in
    let h = below a c.requires.1 in (
      rw (c.entries_of.ensures, S.classes_are) (part_row a.image.bytes.now S.accepted c.args.s h),
      omega (arith, c.row_at.ensures, c.copy_default.ensures.kept.long, (row_in S c.args.s h).1),
    )

pub returns : goal.returns
returns c =
    let a = c.args.self.now in
    let I = c.copy_default.ensures in
    let O = rw c.row_at.ensures at c.put_entries.ensures in
    let at = row_at a.first a.image.k c.args.s in (
      row_stands (set (goal.at.returns c).Start) c.args.s (below a c.requires.1) c.requires.2 I c.entries_of.ensures O,
      kept_then at (at + 2 * a.image.k) I.kept O.kept (omega arith) (omega arith) (omega arith) (omega arith),
    )
