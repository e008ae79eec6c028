use Rattle.std.proofs.Common.{◌≡◌, ℕ, List, ltb, sym, ap, ap₂, ◌∙◌, arith}
use borrow.Author.Tests.{lt-ltb, le-ltb}
use Rattle.paper.specs.Below.{any, how_many_of}
use Rattle.paper.specs.Strings.{count, string, ends}
use Rattle.paper.proofs.Below.{any_more, any_found}
use Rattle.wordlist.proofs.Turns.{crowded_at, crowded_all}
use Rattle.wordlist.proofs.WordList.crowded.Goals as goal
use Rattle.wordlist.proofs.WordList.crowded.Goals.{After-enders_of}

-- The test made of the string is the one that the invariant speaks of.
tested : (c : After-enders_of) → ltb 16 c.enders_of.result ≡ crowded_at c.args.self.now.bytes.now c.loop-i.i
tested c =
    let list = c.args.self.now in
    let b = list.bytes.now in
    ap (ltb 16) (c.enders_of.ensures ∙ ap₂ (λ (n : ℕ) (w : List ℕ). how_many_of n (λ q. ends (string b q) w)) list.begun.counted c.string.ensures)

pub returns-then-enders_of-gt16 : goal.returns-then-enders_of-gt16
returns-then-enders_of-gt16 c =
    let list = c.args.self.now in
    let b = list.bytes.now in
    sym (any_found (count b) c.loop-i.i (crowded_at b) (omega (arith, list.begun.counted)) (sym (tested (goal.at.returns-then-enders_of-gt16 c).After-enders_of) ∙ lt-ltb 16 c.enders_of.result c.if-enders_of-gt16.true))
    ∙ crowded_all b

pub loop-i-preserved : goal.loop-i-preserved
loop-i-preserved c =
    any_more c.loop-i.i (crowded_at c.args.self.now.bytes.now) c.loop-i.invariant (sym (tested (goal.at.loop-i-preserved c).After-enders_of) ∙ le-ltb 16 c.enders_of.result c.if-enders_of-gt16.false)

pub returns : goal.returns
returns c =
    let list = c.args.self.now in
    let b = list.bytes.now in
    let e : c.loop-i.i ≡ count b = omega (arith, list.begun.counted) in
    sym c.loop-i.invariant ∙ ap (λ (x : ℕ). any x (crowded_at b)) e ∙ crowded_all b
