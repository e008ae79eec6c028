use Rattle.std.proofs.Common.{length, ◌-◌, sym, ◌∙◌, arith}
use Rattle.wordlist.proofs.Endings.{ends_longer, rest_all, rest_none, rest_differ, rest_turn}
use Rattle.wordlist.proofs.ends.Goals as goal

pub returns-then-w-v : goal.returns-then-w-v
returns-then-w-v c = ends_longer c.args.v.now c.args.w.now c.if-w-v.true

pub loop-j-init : goal.loop-j-init
loop-j-init c = rest_all c.args.v.now c.args.w.now (length c.args.w.now - length c.args.v.now) (omega arith)

pub returns-then-v-j : goal.returns-then-v-j
returns-then-v-j c =
    sym (c.loop-j.invariant ∙ rest_differ c.args.v.now c.args.w.now (length c.args.w.now - length c.args.v.now) c.loop-j.j (c.loop-j.j - 1) (omega arith) (omega arith) (omega arith) c.if-v-j.true)

pub loop-j-preserved : goal.loop-j-preserved
loop-j-preserved c =
    c.loop-j.invariant ∙ rest_turn c.args.v.now c.args.w.now (length c.args.w.now - length c.args.v.now) c.loop-j.j (c.loop-j.j - 1) (omega arith) (omega arith) (omega arith) c.if-v-j.false

pub returns : goal.returns
returns c = sym (c.loop-j.invariant ∙ rest_none c.args.v.now c.args.w.now (length c.args.w.now - length c.args.v.now) c.loop-j.j (omega arith))
