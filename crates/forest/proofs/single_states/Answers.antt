-- The three arrays are those of single states.
use Rattle.std.proofs.lemmas.List.{get_or-replicate}
use Rattle.forest.proofs.Single.{alone}
use Rattle.forest.proofs.single_states.Goals as goal

pub returns : goal.returns
returns c = alone _ c.own_numbers-own.result (λ x l. get_or-replicate 512 x 0 0 l) c.own_numbers-own.ensures
