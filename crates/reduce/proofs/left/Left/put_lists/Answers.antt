use Rattle.std.proofs.Common.{◌≡◌, refl, arith}
use Rattle.paper.specs.Table.{edition, states}
use Rattle.facts.proofs.TableFacts.{accepted_table}
use Rattle.labels.specs.Tags.{Firsts}
use Rattle.words.proofs.Laid.{laid_none, laid_room, laid_more}
use Rattle.reduce.proofs.left.Left.put_lists.Goals as goal
use Rattle.reduce.proofs.left.Left.put_lists.Goals.{After-firsts-firsts}

-- The array has the first label of each state.
firsts_are : (c : After-firsts-firsts) → let t = c.args.self.now.table.table.bytes.now in Firsts t 262 (states t) (edition t) c.firsts-firsts.result
firsts_are c =
    let T = c.args.self.now.table.table in
    rw (← T.of_edition, ← T.counted.states_are) c.firsts-firsts.ensures

pub firsts-firsts-requires : goal.firsts-firsts-requires
firsts-firsts-requires c =
    let T = c.args.self.now.table.table in
    (T.counted.few_states, omega (arith, T.counted.long), rw (T.of_edition, T.counted.states_are) T.counted.few_labels)

pub loop-s-init : goal.loop-s-init
loop-s-init c = laid_none _ _ _ _ refl

pub put_list-at-requires : goal.put_list-at-requires
put_list-at-requires c =
    let s = c.args.self.now in
    let t = s.table.table.bytes.now in (
      accepted_table t s.table.accepted,
      c.requires.0,
      firsts_are (goal.at.put_list-at-requires c).After-firsts-firsts,
      s.inside c.loop-s.s c.loop-s-test.true,
      laid_room c.loop-s.invariant s.count c.loop-s-test.true c.requires.1,
    )

pub loop-s-preserved : goal.loop-s-preserved
loop-s-preserved c =
    laid_more c.loop-s.invariant c.args.self.now.count c.loop-s-test.true c.requires.1 _ _ c.put_list-at.ensures.0 c.put_list-at.ensures.1

pub returns : goal.returns
returns c = let e : c.loop-s.s ≡ c.args.self.now.count = omega arith in rw e at c.loop-s.invariant.laid
