-- The two next states decide.
use mathlib.Core.Path.{sym, ◌∙◌}
use borrow.Author.Tests.{eq-eqb, ne_eqb}
use Rattle.tally.proofs.hops.hops_on.Goals as goal

pub returns-then-next : goal.returns-then-next
returns-then-next c =
    rw (ne_eqb _ _ (λ e. c.if-next.true (c.next.ensures ∙ e ∙ sym c.next-2.ensures)))

pub returns : goal.returns
returns c =
    rw (eq-eqb _ _ (sym c.next.ensures ∙ c.if-next.false ∙ c.next-2.ensures))
