-- What the search says of its test, where the test compares one level.
use Rattle.std.proofs.Common.{◌≡◌, arith, rules, tests}
use Rattle.std.proofs.lemmas.List.{get_or_read}
use Rattle.weights.proofs.Next.{first_next}
use Rattle.toward.specs.Marked.{level_in}
use Rattle.toward.proofs.next_at.Goals as goal

pub returns : goal.returns
returns c =
    let a = c.args in
    first_next _ _ (level_in a.levels.now) a.from a.n a.level c.first_of.result
    c.first_of.ensures (λ v k. grind (arith, tests, get_or_read)) (λ v k. grind (arith, tests, get_or_read))
