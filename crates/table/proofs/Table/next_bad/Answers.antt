use Rattle.std.proofs.Common.{◌≡◌, ℕ, ◌*◌, ap, ◌∙◌, leb, arith}
use Rattle.paper.specs.Below.{largest}
use Rattle.paper.proofs.Below.{largest-any}
use Rattle.table.proofs.Next.{cell, cells_bad}
use Rattle.table.proofs.Table.next_bad.Goals as goal

pub returns : goal.returns
returns c =
    let a = c.args.self.now in
    let all : c.loop-j.j ≡ a.n * a.k = omega arith in
    ap (leb a.n) (c.loop-j.invariant ∙ ap (λ (j : ℕ). largest j (cell a.bytes.now a.n a.k)) all)
    ∙ largest-any a.n c.requires (a.n * a.k) (cell a.bytes.now a.n a.k) ∙ cells_bad a.bytes.now a.n a.k a.counted
