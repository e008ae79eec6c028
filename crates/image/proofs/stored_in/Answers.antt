-- A full row is read at the class's own place; any other is searched.
use mathlib.Core.Path.{sym, ap, ◌∙◌}
use native.Mathlib.Omega.{arith}
use Rattle.image.specs.Forms.{step_of}
use Rattle.std.specs.Prelude.{None, Some}
use Rattle.image.proofs.Rows.{row_full}
use Rattle.image.proofs.stored_in.Goals as goal

pub returns-then-row-k : goal.returns-then-row-k
returns-then-row-k c =
    ap Some c.get16.ensures ∙ sym (ap step_of (row_full c.requires.0 (omega (arith, c.if-row-k.true)) c.args.class c.requires.2))
