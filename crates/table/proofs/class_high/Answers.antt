use Rattle.std.proofs.Common.{◌≡◌, ℕ, ap, ◌∙◌, leb, arith}
use Rattle.paper.specs.Below.{largest}
use Rattle.paper.proofs.Below.{largest-any}
use Rattle.table.proofs.class_high.Invariants.{class}
use Rattle.table.proofs.class_high.Goals as goal

pub returns : goal.returns
returns c =
    let a = c.args in
    let all : c.loop-x.x ≡ 256 = omega arith in
    ap (leb a.k) (c.loop-x.invariant ∙ ap (λ (x : ℕ). largest x (class a.b.now a.at)) all) ∙ largest-any a.k c.requires.1 256 (class a.b.now a.at)
