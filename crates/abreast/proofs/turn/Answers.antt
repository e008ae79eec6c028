-- The row falls; then its entries of the two classes, if there are any, are laid over it.
use mathlib.Core.Path.{sym, ◌∙◌}
use mathlib.Core.Bool.{true≢false}
use lib.ListN.{length-set}
use native.Mathlib.Omega.{arith}
use Rattle.abreast.proofs.Turning.{kept_fell, turned_none, turned_all}
use Rattle.abreast.proofs.turn.Goals as goal

pub overflow_cast-class : goal.overflow_cast-class
overflow_cast-class c = omega (arith, c.requires.5)

pub returns-then-first-class : goal.returns-then-first-class
returns-then-first-class c =
    let a = c.args in
    let p = c.requires in
    let F = c.fall.ensures in (
      record { place_long = p.6.place_long; left_long = p.6.left_long; wait_long = p.6.wait_long; to_long = F.to_long; hop_long = F.hop_long },
      λ e. absurd (true≢false (sym e)),
      λ _. turned_none a.b.now a.first a.s a.from a.place.now a.left.now a.wait.now a.to.now a.hop.now p.3 F p.4 p.5 c.if-first-class.true,
    )

pub lay-requires : goal.lay-requires
lay-requires c =
    let p = c.requires in
    let F = c.fall.ensures in
    (p.3, p.4, p.2, omega (arith, p.0), F.to_long, F.hop_long)

pub returns-in-None : goal.returns-in-None
returns-in-None c =
    let a = c.args in
    let p = c.requires in (
      record { place_long = p.6.place_long; left_long = p.6.left_long; wait_long = p.6.wait_long; to_long = c.in-None.ensures.0; hop_long = c.in-None.ensures.1 },
      λ e. kept_fell a.b.now a.first a.s a.from a.place.now a.left.now a.wait.now a.to.now a.hop.now p.3 c.fall.ensures c.in-None.ensures.2,
      λ e. absurd (true≢false e),
    )

pub returns-in-Some : goal.returns-in-Some
returns-in-Some c =
    let a = c.args in
    let p = c.requires in
    let done = c.in-Some.ensures.2 in (
      record {
        place_long = length-set a.place.now a.s _ ∙ p.6.place_long;
        left_long = length-set a.left.now a.s _ ∙ p.6.left_long;
        wait_long = length-set a.wait.now a.s _ ∙ p.6.wait_long;
        to_long = c.in-Some.ensures.0;
        hop_long = c.in-Some.ensures.1;
      },
      λ e. absurd (true≢false (sym e)),
      λ e. turned_all a.b.now a.first a.s a.from a.place.now a.left.now a.wait.now a.to.now a.hop.now p.3 c.fall.ensures done.1 p.6 p.0,
    )
