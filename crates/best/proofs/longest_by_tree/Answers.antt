-- Of no state there is nothing.
use Rattle.std.proofs.Common.{refl}
use Rattle.std.proofs.lemmas.List.{get_or-replicate}
use Rattle.best.proofs.longest_by_tree.Goals as goal

pub loop-x-init : goal.loop-x-init
loop-x-init c = record { long = refl; by_tree = λ t l. get_or-replicate 512 t 0 0 l }
