-- The way over r is the climb's steps and the rest of the way.
use Rattle.std.proofs.Common.{ℕ, ◌+◌, max, ◌∙◌, ap}
use Rattle.joining.proofs.farther.Goals as goal

pub returns : goal.returns
returns c F M R m near =
    let a = c.args in
    c.max.ensures ∙ ap (λ (s : ℕ). max a.old (s + 1 + a.past)) (c.steps_to-steps.ensures.1 F M R m near)
