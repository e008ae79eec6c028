use mathlib.Core.Path.{sym}
use native.Mathlib.Omega.{arith}
use Rattle.words.proofs.Placed.{placed_nothing}
use Rattle.running.proofs.Report.{report_more}
use Rattle.running.proofs.reports.put_reports.Goals as goal

pub loop-j-init : goal.loop-j-init
loop-j-init c = sym (placed_nothing c.args.room.now c.args.at)

pub loop-j-preserved : goal.loop-j-preserved
loop-j-preserved c =
    report_more c.args.room.now c.loop-j.room c.put_report.new.room c.args.b.now c.args.at c.args.offset c.args.from c.get16-label.result c.loop-j.j
    (omega (arith, c.requires.0, c.loop-j-test.true)) c.loop-j.invariant c.get16-label.ensures c.put_report.ensures
