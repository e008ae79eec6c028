use Rattle.std.proofs.Common.{◌++◌, List, ℕ, ap, ◌∙◌, append_assoc, add-one, arith, rules}
use Rattle.paper.specs.Below.{each}
use Rattle.counting.specs.Columns.{columns_line}
use Rattle.counting.proofs.put_lines.Goals as goal

pub loop-s-init : goal.loop-s-init
loop-s-init g c = (omega arith, search rules)

pub loop-s-preserved : goal.loop-s-preserved
loop-s-preserved g c =
    let served = c.args.served.now in
    let ran = c.args.ran.now in
    let s = c.loop-s.s in (
      omega (arith, c.put_state.ensures.short, c.loop-s.invariant.0),
      rw (add-one s)
          (c.put_state.ensures.line ∙ ap (λ (l : List ℕ). l ++ columns_line served ran s) c.loop-s.invariant.1 ∙ append_assoc c.args.text.now (each s (columns_line served ran)) (columns_line served ran s)),
    )
