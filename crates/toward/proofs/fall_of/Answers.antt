use Rattle.std.proofs.Common.{◌≡◌, arith}
use Rattle.toward.proofs.Best.{unreached_falls, picked_falls}
use Rattle.toward.proofs.fall_of.Goals as goal

pub returns-then-level : goal.returns-then-level
returns-then-level c =
    let a = c.args in
    let t = a.t.now in
    unreached_falls t.bytes.now t.n t.counted.few_states t.counted.states_are a.levels.now c.requires.1 a.x c.requires.0 c.if-level.true

pub returns : goal.returns
returns c =
    let a = c.args in
    let t = a.t.now in
    let l = c.loop-y in
    let e : l.y ≡ t.n = omega arith in
    picked_falls t.bytes.now t.n t.counted.few_states t.counted.states_are a.levels.now c.requires.1 a.x c.requires.0 l.best l.at c.if-level.false (rw e at l.invariant)
