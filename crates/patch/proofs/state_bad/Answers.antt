-- A state below n is held to the one before, where there is one.
use Rattle.patch.proofs.States.{state_high, state_first, state_later}
use Rattle.patch.proofs.state_bad.Goals as goal

pub returns-then-n-s : goal.returns-then-n-s
returns-then-n-s c = let t = c.args in state_high t.x.now t.i t.n _ c.state_at-s.ensures c.if-n-s.true

pub returns-then-i-eq0 : goal.returns-then-i-eq0
returns-then-i-eq0 c =
    let t = c.args in
    state_first t.x.now t.i t.n _ c.state_at-s.ensures c.if-n-s.false c.if-i-eq0.true

pub returns : goal.returns
returns c =
    let t = c.args in
    state_later t.x.now t.i t.n _ c.state_at-s.ensures c.if-n-s.false c.if-i-eq0.false _ c.state_at.ensures
