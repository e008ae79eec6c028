-- The two numbers of the record, the first as the case that it stands for.
use Rattle.image.proofs.Cases.{fallback_root, fallback_state}
use Rattle.image.proofs.record_at.Goals as goal

pub returns-then-default : goal.returns-then-default
returns-then-default c = let f = fallback_root _ c.if-default.true in cc

pub returns-else-default : goal.returns-else-default
returns-else-default c = let f = fallback_state _ c.if-default.false in cc
