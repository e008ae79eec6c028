-- The running scan as the code holds it, and what one byte makes of it.
use Rattle.std.specs.Prelude.{ℕ, ◌+◌, ◌*◌, ◌≤◌, ◌<◌}
use Rattle.running.specs.Rules.{Rules, found_on}
use Rattle.running.specs.declared.automaton.Run.{Run}

-- The running scan after one byte more, but for its reports.
unfoldable pub went_of : Rules → Run → ℕ → Run
went_of R r x = let f = found_on R r.state x in record { state = f.target; hops = r.hops + f.hops; reports = r.reports }

-- The running scan is in one of the states, and its hops have room for those of one byte more.
pub record Small (R : Rules) (r : Run) : Type 0 where
  pub inside : r.state < R.states
  pub cheap : r.hops ≤ 512 * 65536
