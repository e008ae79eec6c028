use Rattle.std.proofs.Common.{◌≡◌, ◌+◌, refl, arith, length-set}
use Rattle.paper.specs.Words.{byte_at}
use Rattle.paper.proofs.Marks.{seen_nothing, seen_more}
use Rattle.table.proofs.classes_seen.Goals as goal

pub loop-x-init : goal.loop-x-init
loop-x-init c = let a = c.args in (refl, seen_nothing (λ x. byte_at a.b.now (a.at + x)))

pub loop-x-preserved : goal.loop-x-preserved
loop-x-preserved c =
    let l = c.loop-x in
    let a = c.args in (
      simp length-set l.invariant.0,
      seen_more l.seen (λ x. byte_at a.b.now (a.at + x)) l.x (byte_at a.b.now (a.at + l.x)) l.invariant.0 refl (omega (arith, c.type_inv.b (a.at + l.x))) l.invariant.1,
    )

pub returns : goal.returns
returns c = let all : c.loop-x.x ≡ 256 = omega arith in rw all at c.loop-x.invariant.1
