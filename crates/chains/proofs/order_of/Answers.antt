-- The order meets its contract: what the setting out found, and the largest length as the depth.
use Rattle.std.proofs.Common.{sym, ap, ◌∙◌, cond, ℕ, Bool, max, arith}
use Rattle.words.proofs.Front.{largest_front}
use Rattle.chains.proofs.Depth.{lengths_depth}
use Rattle.chains.proofs.order_of.Goals as goal

pub returns-then-set_out-clause-endless : goal.returns-then-set_out-clause-endless
returns-then-set_out-clause-endless c = ap (λ (b : Bool). cond {A = ℕ} b 11 0) (sym c.if-set_out.true ∙ c.set_out.ensures.0)

pub lengths-len-requires : goal.lengths-len-requires
lengths-len-requires c = (c.requires.0, c.requires.1, c.set_out.ensures.1 c.if-set_out.false)

pub returns-clause-endless : goal.returns-clause-endless
returns-clause-endless c = ap (λ (b : Bool). cond {A = ℕ} b 11 0) (sym c.if-set_out.false ∙ c.set_out.ensures.0)

pub returns-clause-ordered : goal.returns-clause-ordered
returns-clause-ordered c =
    let a = c.args in (
      lengths_depth a.n a.def.now c.lengths-len.result _ c.lengths-len.ensures
          (c.most-depth.ensures ∙ ap (max 0) (largest_front a.n c.lengths-len.result (omega (arith, c.requires.0, c.lengths-len.type_inv.0)))),
      c.set_out.ensures.1 c.if-set_out.false,
    )
