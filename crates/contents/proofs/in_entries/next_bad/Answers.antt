use mathlib.Core.Path.{◌≡◌, refl, ap, ◌∙◌}
use Prim.Native.Nat.{ℕ, ◌+◌, ◌-◌, ◌*◌, max}
use native.Mathlib.Numerals.{add-one}
use native.Mathlib.Omega.{arith}
use lib.Dec.{leb}
use lib.ListN.{length}
use borrow.Author.Rules.{rules}
use Rattle.paper.specs.Below.{largest}
use Rattle.paper.specs.Words.{number16}
use Rattle.paper.specs.Image.{states, entries, entries_at}
use Rattle.contents.proofs.Entries.{next_of, next-largest}
use Rattle.contents.proofs.in_entries.next_bad.Goals as goal

pub loop-j-init : goal.loop-j-init
loop-j-init c = refl

pub loop-j-preserved : goal.loop-j-preserved
loop-j-preserved c =
    let b = c.args.b.now in
    let from_is : length b - (4 * c.args.m + 12) ≡ entries_at b = omega (arith, c.requires.2) in
    let read : c.get16.result ≡ next_of b c.loop-j.j = c.get16.ensures ∙ ap (λ (x : ℕ). number16 b (x + 4 * c.loop-j.j + 2)) from_is in
    let one_more : largest (c.loop-j.j + 1) (next_of b) ≡ max (next_of b c.loop-j.j) (largest c.loop-j.j (next_of b)) = rw (add-one c.loop-j.j) in
    omega (arith, read, c.loop-j.invariant, one_more)

pub overflow_cast-result : goal.overflow_cast-result
overflow_cast-result c = omega (arith, c.loop-j.invariant)

pub returns : goal.returns
returns c =
    let b = c.args.b.now in
    let all : c.loop-j.j ≡ entries b = omega (arith, c.loop-j.invariant, c.loop-j-test.false, c.requires.2) in
    let most : c.loop-j.most ≡ largest (entries b) (next_of b) = c.loop-j.invariant ∙ ap (λ (j : ℕ). largest j (next_of b)) all in
    ap (λ (n : ℕ). leb n c.loop-j.most) c.requires.1 ∙ ap (leb (states b)) most ∙ next-largest b c.requires.0 (omega (arith, c.requires.1, c.requires.3))
