-- Each way out is one law.
use Rattle.std.proofs.Common.{arith}
use Rattle.rows.proofs.Step.{step_old, step_full, step_new}
use Rattle.rows.proofs.Names.step_in.Goals as goal

pub returns-then-d-ne0-clause-stepped : goal.returns-then-d-ne0-clause-stepped
returns-then-d-ne0-clause-stepped c ws l G =
    let a = c.args in
    let s = a.self.now in
    step_old a.classes.now.of a.rows.now s.parent s.last s.long s.count a.p a.a s.few c.requires.1 (omega arith) ws l G c.if-d-ne0.true

pub returns-then-n-eq512-clause-stepped : goal.returns-then-n-eq512-clause-stepped
returns-then-n-eq512-clause-stepped c ws l G =
    let a = c.args in
    let s = a.self.now in
    step_full a.classes.now.of a.rows.now s.parent s.last s.long s.count a.p a.a s.few c.requires.1 (omega arith) ws l G c.if-n-eq512.true c.if-d-ne0.false

pub returns-clause-stepped : goal.returns-clause-stepped
returns-clause-stepped c ws l G =
    let a = c.args in
    let s = a.self.now in
    let k = a.classes.now in
    step_new k.of a.rows.now s.parent s.last s.long s.count a.p a.a s.few c.requires.1 (omega arith) ws l G (omega (arith, s.few))
    (λ x h. omega (arith, k.few, k.columns x h)) c.requires.0 (omega arith) (omega arith) (omega arith) (omega arith) c.if-d-ne0.false
