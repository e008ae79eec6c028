-- The promise is that of `tabulate::strings`, on the same bytes.
use Rattle.kamordast.proofs.kamordast_strings.Goals as goal

pub returns : goal.returns
returns c = c.strings.ensures
