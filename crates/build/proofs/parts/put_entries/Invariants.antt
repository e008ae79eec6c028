-- The loop's invariant: the entries of the states before s are placed, and end at `here`.
use Rattle.paper.specs.Table.{classes}
use Rattle.words.proofs.Laid.{Laid}
use Rattle.build.specs.Pieces.{kept_row}
use Rattle.build.proofs.parts.put_entries.Given as goal

abbrev pub invariant-loop-s : goal.invariant-loop-s
invariant-loop-s g l = let t = g.S.Source.table l.source in Laid l.initial.room l.at (kept_row t (classes t) (g.S.Source.defaults l.source)) l.s l.room l.here
