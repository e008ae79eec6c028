-- The invariant: the states with names shorter than the level have their links and rows.
use Rattle.std.proofs.Common.{List}
use Rattle.paper.specs.Strings.{Rule}
use Rattle.strings.proofs.RowsFilled.{Filled}
use Rattle.strings.proofs.LevelTurn.{Prepared}
use Rattle.strings.proofs.Spread.{spread}
use Rattle.rows.proofs.fill_all.Given as goal

abbrev pub invariant-loop-level : goal.invariant-loop-level
invariant-loop-level l =
    (rs : List Rule) → Prepared rs l.names.parent l.names.last l.names.long l.names.count → Filled rs (spread l.classes.of l.initial.rows) l.initial.links 1 0 → Filled rs (spread l.classes.of l.rows) l.links l.level 0
