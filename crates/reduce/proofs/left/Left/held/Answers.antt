use Rattle.std.proofs.Common.{◌≡◌, ℕ, ◌≤◌, length, get_or, sym, ap, ◌∙◌, add-one, arith}
use Rattle.paper.specs.Below.{sum}
use Rattle.paper.specs.Labels.{two}
use Rattle.paper.specs.Table.{edition}
use Rattle.facts.proofs.TableFacts.{accepted_table}
use Rattle.labels.specs.Editions.{edition_in}
use Rattle.reduce.specs.Pieces.{labels_of}
use Rattle.reduce.proofs.Labels.{two_count, two_few, held_one, held_two}
use Rattle.reduce.proofs.left.Left.held.Goals as goal
use Rattle.reduce.proofs.left.Left.held.Goals.{After-get16, In-Two}

-- The table is of edition 2.
second : (c : In-Two) → edition c.args.self.now.table.table.bytes.now ≡ two
second c = sym c.args.self.now.table.table.of_edition ∙ ap edition_in c.in-Two.is

-- So many labels the old state has, at most 16.
many : (c : After-get16) → let s = c.args.self.now in
    (c.get16.result ≡ length (labels_of s.table.table.bytes.now s.old c.loop-s.s)) × (c.get16.result ≤ 16)
many c =
    let s = c.args.self.now in
    let t = s.table.table.bytes.now in
    let x = get_or s.old c.loop-s.s 0 in
    let e = second (goal.at.After-get16 c).In-Two in
    (c.get16.ensures ∙ sym (two_count t x e), omega (arith, c.get16.ensures, two_few t x (accepted_table t s.table.accepted) (s.inside c.loop-s.s c.loop-s-test.true) e))

pub loop-s-preserved : goal.loop-s-preserved
loop-s-preserved c =
    let l = c.loop-s in
    let s = c.args.self.now in
    let M = many (goal.at.loop-s-preserved c).After-get16 in
    (omega (arith, l.invariant.0, M.0, ap (λ (m : ℕ). sum m (λ r. length (labels_of s.table.table.bytes.now s.old r))) (add-one l.s)), omega (arith, l.invariant.1, M.1))

pub returns-in-One : goal.returns-in-One
returns-in-One c =
    let s = c.args.self.now in
    let t = s.table.table.bytes.now in
    (sym (held_one t s.count (labels_of t s.old) (sym s.table.table.of_edition ∙ ap edition_in c.in-One.is)), omega arith)

pub returns-after-loop-s : goal.returns-after-loop-s
returns-after-loop-s c =
    let l = c.loop-s in
    let s = c.args.self.now in
    let t = s.table.table.bytes.now in
    let z : l.s ≡ s.count = omega arith in (
      l.invariant.0 ∙ ap (λ (m : ℕ). sum m (λ r. length (labels_of t s.old r))) z ∙ sym (held_two t s.count (labels_of t s.old) (second (goal.at.returns-after-loop-s c).In-Two)),
      omega (arith, l.invariant.1, z, s.few),
    )
