use Rattle.std.proofs.Common.{◌≡◌, ℕ, ◌+◌, ◌*◌, get_or, ap, ◌∙◌, arith}
use Rattle.paper.specs.Words.{number16, bytes16}
use Rattle.trips.proofs.Numbers.{length-words}
use Rattle.words.specs.Placed.{placed}
use Rattle.words.proofs.Laid.{laid_none, laid_more}
use Rattle.reduce.proofs.Labels.{length_word}
use Rattle.reduce.proofs.left.Left.put_tags.Goals as goal

pub loop-s-init : goal.loop-s-init
loop-s-init c = laid_none _ _ _ _ (omega arith)

pub bounds-self-s : goal.bounds-self-s
bounds-self-s c = omega (arith, c.args.self.now.few)

pub get16-tag-requires : goal.get16-tag-requires
get16-tag-requires c = let s = c.args.self.now in let C = s.table.table.counted in omega (arith, s.inside c.loop-s.s c.loop-s-test.true, C.states_are, C.long)

pub put16-requires : goal.put16-requires
put16-requires c = omega (arith, c.requires, c.loop-s.invariant.as_long)

pub loop-s-preserved : goal.loop-s-preserved
loop-s-preserved c =
    let l = c.loop-s in
    let s = c.args.self.now in
    let tag : ℕ → ℕ = λ r. number16 s.table.table.bytes.now (262 + 2 * get_or s.old r 0) in
    laid_more l.invariant s.count c.loop-s-test.true (omega (arith, c.requires, length-words s.count tag)) _ _ (omega (arith, length_word (tag l.s)))
    (c.put16.ensures ∙ ap (λ (v : ℕ). placed l.room (262 + 2 * l.s) (bytes16 v)) c.get16-tag.ensures)

pub returns : goal.returns
returns c = let e : c.loop-s.s ≡ c.args.self.now.count = omega arith in rw e at c.loop-s.invariant.laid
