-- The climb meets its contract. The invariant: it has passed t states without a place and stands at the next, which is below n.
use Rattle.std.proofs.Common.{◌<◌}
use Rattle.chains.specs.Orders.{defaults_view}
use Rattle.chains.proofs.Climbs.{Climbing}
use Rattle.chains.proofs.setting.climb.Given as goal

abbrev pub invariant-loop-t : goal.invariant-loop-t
invariant-loop-t l = (l.cur < l.n) × Climbing (defaults_view l.n l.def) l.place l.s l.t l.cur
