-- The loop's invariant: the defaults of the states so far are set down.
use Rattle.paper.proofs.Filled.{Fills}
use Rattle.sweep.proofs.Defaults.{default_number_of}
use Rattle.sweep.proofs.defaults_of.Given as goal

abbrev pub invariant-loop-s : goal.invariant-loop-s
invariant-loop-s l = Fills (default_number_of l.image) l.def l.s
