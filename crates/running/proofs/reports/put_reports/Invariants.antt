-- The loop's invariant: the reports of the first j labels stand in the room, one behind the other.
use mathlib.Core.Path.{◌≡◌}
use Rattle.paper.specs.Scan.{report_bytes}
use Rattle.words.specs.Placed.{placed}
use Rattle.labels.specs.Tags.{numbers_from}
use Rattle.running.proofs.reports.put_reports.Given as goal

abbrev pub invariant-loop-j : goal.invariant-loop-j
invariant-loop-j l = l.room ≡ placed l.initial.room l.at (report_bytes l.offset (numbers_from l.b l.from l.j))
