use Rattle.std.proofs.Common.{sym, ◌∙◌}
use Rattle.forest.proofs.Settled.{settles_past, settles_turned}
use Rattle.forest.proofs.settle.Goals as goal
use Rattle.forest.proofs.settle.Goals.{else-is_root, then-is_root}

pub loop-x-preserved : goal.loop-x-preserved
loop-x-preserved c =
    let l = c.loop-x in
    let n = c.args.n in
    let f = c.args.f in
    let N = c.neighbours_of-near in
    elim c.if-is_root.branch [
      | then-is_root w ↦
          let turned = w.turned_to-turned in
          rw w.parent-is (settles_turned n c.requires f.d f.parent f.tree N.result N.ensures l.parent l.x c.loop-x-test.true l.invariant
          (sym c.is_root.ensures ∙ w.if-is_root.true) turned.result turned.ensures.0 turned.ensures.1)
      | else-is_root w ↦ rw w.parent-is (settles_past n c.requires f.d f.parent f.tree N.result N.ensures l.parent l.x c.loop-x-test.true l.invariant
          (sym c.is_root.ensures ∙ w.if-is_root.false))
    ]
