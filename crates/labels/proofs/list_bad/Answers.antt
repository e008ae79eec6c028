use Rattle.std.proofs.Common.{◌≡◌, ◌+◌, ◌*◌, refl, sym, add-one, le-leb, arith}
use borrow.Author.Tests.{lt-leb}
use Rattle.paper.specs.Words.{number16}
use Rattle.paper.proofs.Below.{any_more, any_found}
use Rattle.labels.specs.Lists.{low_of, list_bad_of}
use Rattle.labels.proofs.list_bad.Invariants.{falls}
use Rattle.labels.proofs.list_bad.Goals as goal

pub loop-j-init : goal.loop-j-init
loop-j-init c = (refl, refl)

pub returns-then-label-low : goal.returns-then-label-low
unfolding list_bad_of
returns-then-label-low c =
    let a = c.args in
    let b = a.b.now in
    sym (any_found a.count c.loop-j.j (falls b a.from) (omega arith) (le-leb (number16 b (a.from + 2 * c.loop-j.j)) (low_of b a.from c.loop-j.j) (omega arith)))

pub loop-j-preserved : goal.loop-j-preserved
loop-j-preserved c =
    let a = c.args in
    let b = a.b.now in (
      rw (add-one c.loop-j.j) (omega arith),
      any_more c.loop-j.j (falls b a.from) c.loop-j.invariant.1 (lt-leb (number16 b (a.from + 2 * c.loop-j.j)) (low_of b a.from c.loop-j.j) (omega arith)),
    )

pub returns : goal.returns
unfolding list_bad_of
returns c = let all : c.loop-j.j ≡ c.args.count = omega arith in sym (rw all at c.loop-j.invariant.1)
