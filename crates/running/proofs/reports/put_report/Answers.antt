-- The offset is placed first, and the label behind it.
use Rattle.running.proofs.Report.{report_placed}
use Rattle.running.proofs.reports.put_report.Goals as goal

pub returns : goal.returns
returns c =
    report_placed c.args.room.now c.put32.new.room c.put16.new.room c.args.at c.args.offset c.args.label c.requires c.put32.ensures c.put16.ensures
