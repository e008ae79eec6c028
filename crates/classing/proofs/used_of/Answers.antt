use Rattle.std.proofs.Common.{◌≡◌, ℕ, ◌<◌, List, length, false, ◌||◌, eqb, refl, get_or, arith}
use lib.ListN.{get_or-replicate}
use Rattle.paper.specs.Below.{any}
use Rattle.strings.proofs.Marked.{marked_more, marked_all}
use Rattle.classing.proofs.used_of.Goals as goal

pub loop-i-init : goal.loop-i-init
loop-i-init c = (refl, λ x h. get_or-replicate 256 x false false h)

pub loop-i-preserved : goal.loop-i-preserved
loop-i-preserved c =
    let b = c.args.list.now.bytes.now in
    let s : List ℕ = c.string-x-items.result.now in
    let e : c.loop-x.x-index ≡ length s = omega arith in
    let M : (x : ℕ) → x < 256 → get_or c.loop-x.used x false ≡ get_or c.loop-i.used x false || any (length s) (λ j. eqb (get_or s j 0) x) = rw e at c.loop-x.invariant.1 in
    (c.loop-x.invariant.0, marked_more b c.loop-i.i c.loop-i.used c.loop-x.used (rw c.string-x-items.ensures at M) c.loop-i.invariant.1)

pub returns : goal.returns
returns c =
    let list = c.args.list.now in
    marked_all list.bytes.now c.loop-i.i c.loop-i.used (omega (arith, list.begun.counted)) c.loop-i.invariant.1
