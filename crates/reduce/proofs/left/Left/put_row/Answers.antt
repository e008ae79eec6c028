use Rattle.std.proofs.Common.{◌≡◌, ℕ, ◌+◌, ◌*◌, ◌<◌, get_or, ap, ◌∙◌, arith}
use Rattle.paper.specs.Words.{bytes16}
use Rattle.facts.proofs.TableFacts.{accepted_table}
use Rattle.trips.proofs.Numbers.{length-words}
use Rattle.words.specs.Placed.{placed}
use Rattle.words.proofs.Laid.{laid_none, laid_more}
use Rattle.reduce.specs.Pieces.{goes_to}
use Rattle.reduce.proofs.Labels.{length_word}
use Rattle.reduce.proofs.Filled.{next_named}
use Rattle.reduce.proofs.left.Left.put_row.Goals as goal
use Rattle.reduce.proofs.left.Left.put_row.Goals.{After-next-y}

-- The next state is a state, and has a name.
small : (c : After-next-y) → let s = c.args.self.now in (c.next-y.result < 512) × (get_or s.name c.next-y.result 0 < 512)
small c =
    let s = c.args.self.now in
    let t = s.table.table.bytes.now in
    let A = accepted_table t s.table.accepted in
    let C = s.table.table.counted in
    let k = c.loop-c.c in (
      omega (arith, c.next-y.ensures, A.few_states, A.inside (get_or s.old c.args.s 0) k (s.inside c.args.s c.requires.0) (omega (arith, C.classes_are, c.loop-c-test.true))),
      rw c.next-y.ensures (next_named t s.name s.rank s.old s.count A s.renumbers c.args.s k c.requires.0 (omega (arith, C.classes_are, c.loop-c-test.true))),
    )

pub loop-c-init : goal.loop-c-init
loop-c-init c = laid_none _ _ _ _ (omega arith)

pub bounds-name-y : goal.bounds-name-y
bounds-name-y c = (small (goal.at.bounds-name-y c).After-next-y).0

pub bounds-rank-p : goal.bounds-rank-p
bounds-rank-p c = (small (goal.at.bounds-rank-p c).After-next-y).1

pub loop-c-preserved : goal.loop-c-preserved
loop-c-preserved c =
    let l = c.loop-c in
    let s = c.args.self.now in
    let goes = goes_to s.table.table.bytes.now s.name s.rank (get_or s.old c.args.s 0) in
    laid_more l.invariant s.table.table.k c.loop-c-test.true (omega (arith, c.requires.1, length-words s.table.table.k goes)) _ _ (omega (arith, length_word (goes l.c)))
    (c.put16.ensures ∙ ap (λ (y : ℕ). placed l.room (c.args.at + 2 * l.c) (bytes16 (get_or s.rank (get_or s.name y 0) 0))) c.next-y.ensures)

pub returns : goal.returns
returns c = let e : c.loop-c.c ≡ c.args.self.now.table.table.k = omega arith in rw e at c.loop-c.invariant.laid
