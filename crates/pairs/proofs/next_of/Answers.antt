-- What the search says of its test, where the test compares one weight.
use Rattle.std.proofs.Common.{◌≡◌, arith, rules, tests}
use Rattle.std.proofs.lemmas.List.{get_or_read}
use Rattle.weights.specs.Weighed.{weight_in}
use Rattle.weights.proofs.Next.{first_next}
use Rattle.pairs.proofs.next_of.Goals as goal

pub returns : goal.returns
returns c =
    let a = c.args in
    first_next _ _ (weight_in a.weights.now a.u) a.from a.n a.w c.first_of.result
    c.first_of.ensures (λ v k. grind (arith, tests, get_or_read)) (λ v k. grind (arith, tests, get_or_read))
