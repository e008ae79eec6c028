use mathlib.Core.Path.{◌≡◌, ap, ◌∙◌}
use Prim.Native.Nat.{ℕ, ◌+◌, ◌*◌, ◌≤◌}
use native.Mathlib.Numerals.{add-one}
use native.Mathlib.Omega.{arith}
use lib.ListN.{length}
use Rattle.paper.specs.Words.{bytes16}
use Rattle.paper.specs.Labels.{label_count}
use Rattle.paper.specs.Results.{label_bytes_of}
use Rattle.paper.proofs.Sums.{sum-before}
use Rattle.words.specs.Placed.{placed}
use Rattle.words.proofs.Laid.{laid_none, laid_more}
use Rattle.relabel.proofs.Across.{number_at, length_number, length-numbers}
use Rattle.relabel.proofs.Tags.put_numbers.Goals as goal
use Rattle.relabel.proofs.Tags.put_numbers.Goals.{After-tag-count}

-- The list of the state ends before the end of all labels.
list_in : (c : After-tag-count) → c.loop-s.from + 2 * c.tag-count.result ≤ length c.args.self.now.image.now
unfolding label_count
list_in c =
    omega (arith, c.requires.0, c.loop-s.invariant.0, c.tag-count.ensures, sum-before c.args.self.now.n c.loop-s.s (label_count c.args.self.now.image.now 268) c.loop-s-test.true)

pub loop-s-init : goal.loop-s-init
loop-s-init c = (omega arith, laid_none _ _ _ _ (omega arith))

pub first_label-label-requires : goal.first_label-label-requires
first_label-label-requires c = list_in (goal.at.first_label-label-requires c).After-tag-count

pub overflow_add-from-in-loop-s : goal.overflow_add-from-in-loop-s
overflow_add-from-in-loop-s c = omega (arith, list_in (goal.at.overflow_add-from-in-loop-s c).After-tag-count)

pub loop-s-preserved : goal.loop-s-preserved
unfolding label_count
loop-s-preserved c =
    let a = c.args in
    let b = c.args.self.now.image.now in
    let here = c.loop-s.s in
    let number = number_at b c.args.self.now.n here c.loop-s.from c.tag-count.result c.first_label-label.result c.loop-s.invariant.0 c.tag-count.ensures c.first_label-label.ensures in
    let all = length-numbers b c.args.self.now.n c.args.self.now.n in (
      rw (add-one here) (omega (arith, c.loop-s.invariant.0, c.tag-count.ensures)),
      laid_more c.loop-s.invariant.1 c.args.self.now.n c.loop-s-test.true (omega (arith, c.requires.1)) _ _ (omega (arith, length_number b c.args.self.now.n here))
          (c.put16.ensures ∙ ap (λ (x : ℕ). placed c.loop-s.room (268 + 2 * here) (bytes16 x)) number),
    )

pub returns : goal.returns
unfolding label_bytes_of
returns c = let e : c.loop-s.s ≡ c.args.self.now.n = omega arith in rw e at c.loop-s.invariant.1.laid
