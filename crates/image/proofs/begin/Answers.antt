-- A short row is searched from its first entry on, a long one from where it was halved to.
use Rattle.std.proofs.Common.{refl, arith}
use Rattle.image.proofs.Rows.{under_none}
use Rattle.image.proofs.begin.Goals as goal

pub returns-then-row-le32 : goal.returns-then-row-le32
returns-then-row-le32 c = record { entry = 0; place = omega arith; under = under_none c.requires c.args.class }

pub returns : goal.returns
returns c = record { entry = c.near.result; place = refl; under = c.near.ensures.before }
