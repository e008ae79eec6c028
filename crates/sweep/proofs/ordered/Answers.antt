-- The defaults are listed, and the order that is found for the list is one for the image.
use Rattle.std.proofs.Common.{Bool, ℕ, cond, refl, sym, ap, ◌∙◌}
use Rattle.std.proofs.lemmas.Result.{IfOk-weaker}
use Rattle.chains.proofs.Agrees.{inside_range}
use Rattle.sweep.proofs.Sweeping.{view_ordered}
use Rattle.sweep.proofs.Verdict.{endless_is, depth_is}
use Rattle.sweep.proofs.ordered.Goals as goal

pub order_of-requires : goal.order_of-requires
order_of-requires c = let P = c.requires in (P.few_states, inside_range c.defaults_of-def.ensures.0 P.inside)

pub returns-clause-endless : goal.returns-clause-endless
returns-clause-endless c =
    c.order_of.ensures.endless ∙ ap (λ (b : Bool). cond {A = ℕ} b 11 0) (sym (endless_is c.requires.inside c.defaults_of-def.ensures.0 _ refl))

pub returns-clause-ordered : goal.returns-clause-ordered
returns-clause-ordered c =
    let F = c.defaults_of-def.ensures.0 in
    IfOk-weaker c.order_of.result _ _ (λ o k. (depth_is c.requires.inside F o.depth k.0, view_ordered F k.1)) c.order_of.ensures.ordered
