-- What is stored at a place: an entry before the end of the class, or none.
use mathlib.Core.Path.{sym, ◌∙◌}
use native.Mathlib.Omega.{arith}
use Rattle.sweep.proofs.Places.{own-found, own_other, own_ended}
use Rattle.sweep.proofs.own_at.Goals as goal

pub get16-requires : goal.get16-requires
get16-requires c = omega (arith, c.requires.0, c.requires.1 c.if-at-end.true)

pub get16-requires-then-get16-class : goal.get16-requires-then-get16-class
get16-requires-then-get16-class c = omega (arith, c.requires.0, c.requires.1 c.if-at-end.true)

pub returns-then-get16-class : goal.returns-then-get16-class
returns-then-get16-class c =
    let a = c.args in
    c.get16-then-get16-class.ensures ∙ own-found a.image.now a.at a.end a.class c.if-at-end.true (sym c.get16.ensures ∙ c.if-get16-class.true)

pub returns-else-get16-class : goal.returns-else-get16-class
returns-else-get16-class c =
    let a = c.args in
    own_other a.image.now a.at a.end a.class c.if-at-end.true (λ e. c.if-get16-class.false (c.get16.ensures ∙ e))

pub returns-else-at-end : goal.returns-else-at-end
returns-else-at-end c = let a = c.args in own_ended a.image.now a.at a.end a.class c.if-at-end.false
