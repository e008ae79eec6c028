-- The promise is that of `patchscan::scan_patched`, on the same bytes from the same state.
use Rattle.kamordast.proofs.kamordast_scan_patched.Goals as goal

pub returns : goal.returns
returns c = c.scan_patched.ensures
