-- The invariant: the states of this level with numbers below s have their links and rows.
use Rattle.std.proofs.Common.{◌≡◌, List, length}
use Rattle.paper.specs.Strings.{Rule}
use Rattle.strings.proofs.RowsFilled.{Filled}
use Rattle.strings.proofs.LevelTurn.{Prepared}
use Rattle.strings.proofs.Spread.{spread}
use Rattle.rows.proofs.fill_level.Given as goal

abbrev pub invariant-loop-s : goal.invariant-loop-s
invariant-loop-s l =
    (length l.links ≡ 512)
    × ((rs : List Rule) → Prepared rs l.names.parent l.names.last l.names.long l.names.count → Filled rs (spread l.classes.of l.initial.rows) l.initial.links l.level 0 → Filled rs (spread l.classes.of l.rows) l.links l.level l.s)
