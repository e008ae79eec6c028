-- A count above k is wrong with and without a default; then the default decides what is tested.
use Rattle.contents.proofs.Records.{record_high, record_root, record_falls}
use Rattle.contents.proofs.in_records.record_bad.Goals as goal

pub returns-then-k-count : goal.returns-then-k-count
returns-then-k-count c = record_high _ _ c.args.read c.if-k-count.true

pub returns-in-None : goal.returns-in-None
returns-in-None c = record_root _ _ c.args.read c.if-k-count.false c.in-None.is

pub returns-in-Some : goal.returns-in-Some
returns-in-Some c = record_falls _ _ c.args.read _ c.if-k-count.false c.in-Some.is
