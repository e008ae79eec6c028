use Rattle.std.proofs.Common.{◌≡◌, ◌∙◌, arith}
use Rattle.strings.proofs.LevelTurn.{turn_skip, turn_level}
use Rattle.strings.proofs.Spread.{spread}
use Rattle.rows.proofs.Level.{level_asks, level_more}
use Rattle.rows.proofs.fill_level.Goals as goal
use Rattle.rows.proofs.fill_level.Goals.{then-names-s, else-names-s}

pub fill_state-requires : goal.fill_state-requires
fill_state-requires c =
    let a = c.args in
    let m = a.names.now in
    let k = a.classes.now in
    let (rs, P, F) = c.requires.1 in
    let (q₁, q₂, q₃, q₄, q₅, q₆) =
    level_asks rs m.parent m.last m.long m.count P k.of k.count k.few k.columns c.loop-s.rows c.loop-s.links a.level c.loop-s.s c.loop-s-test.true (c.loop-s.invariant.1 rs P F) c.if-names-s.true c.requires.0 in
    (q₁, q₂, q₃, q₄, q₅, q₆, k.few)

pub loop-s-preserved : goal.loop-s-preserved
loop-s-preserved c =
    let a = c.args in
    let m = a.names.now in
    let k = a.classes.now in
    let l = c.loop-s in (
      omega arith,
      λ rs P F. elim c.if-names-s.branch [
        | then-names-s w ↦ rw w.rows-is (level_more rs m.parent m.last m.long m.count P k.of k.count k.few k.columns l.rows l.links a.level l.s c.loop-s-test.true (l.invariant.1 rs P F) w.if-names-s.true c.requires.0
            w.fill_state.new.rows c.if-names-s.links l.invariant.0 w.fill_state.ensures.0 (w.links-is ∙ w.fill_state.ensures.1))
        | else-names-s w ↦ rw (w.rows-is, w.links-is) (turn_skip rs m.parent m.last m.long m.count P (spread k.of l.rows) l.links a.level l.s c.loop-s-test.true (l.invariant.1 rs P F) w.if-names-s.false)
      ],
    )

pub returns : goal.returns
returns c rs P F =
    let a = c.args in
    let m = a.names.now in
    let l = c.loop-s in
    let e : l.s ≡ m.count = omega arith in
    turn_level rs m.parent m.last m.long m.count P (spread a.classes.now.of l.rows) l.links a.level (rw (← e) (l.invariant.1 rs P F))
