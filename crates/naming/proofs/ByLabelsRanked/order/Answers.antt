-- The tags decide where they differ; where they do not the labels are the same in edition 1, and in edition 2 the runs behind the counts decide.
use Rattle.std.proofs.Common.{◌≡◌, ℕ, ◌+◌, ◌*◌, ◌≤◌, ◌<◌, length, get_or, sym, ap, ◌∙◌, arith}
use Rattle.std.proofs.lemmas.Cmp.{ranked}
use Rattle.paper.specs.Words.{number16}
use Rattle.paper.specs.Labels.{two}
use Rattle.paper.specs.Table.{edition, states}
use Rattle.facts.proofs.TableFacts.{accepted_table}
use Rattle.labels.specs.Editions.{edition_in}
use Rattle.naming.proofs.Ordered.{order_map}
use Rattle.naming.proofs.Labels.{tags_less, numbers_same, tags_agree, runs_agree, runs_less, run_inside}
use Rattle.naming.proofs.ByLabelsRanked.order.Goals as goal
use Rattle.naming.proofs.ByLabelsRanked.order.Goals.{In-Two}

-- The table is of edition 2.
second : (c : In-Two) → edition c.args.self.now.table.table.bytes.now ≡ two
second c = sym c.args.self.now.table.table.of_edition ∙ ap edition_in c.in-Two.is

-- In edition 2 the run of a state stands in the table.
inside : (c : In-Two) (z : ℕ) → let s = c.args.self.now in let t = s.table.table.bytes.now in
    z < states t → 262 + 2 * get_or s.firsts.now z 0 + 2 * number16 t (262 + 2 * z) ≤ length t
inside c z h =
    let s = c.args.self.now in
    let t = s.table.table.bytes.now in
    run_inside t s.firsts.now z (accepted_table t s.table.accepted) s.firsts_are h (second c)

pub returns-then-tag-mark : goal.returns-then-tag-mark
returns-then-tag-mark c =
    let t = c.args.self.now.table.table.bytes.now in
    let x = c.args.x in
    let y = c.args.y in
    order_map c.cmp.result (ranked _ _ c.cmp.result c.cmp.ensures)
    (λ l. tags_less t x y (omega (arith, c.get16-tag.ensures, c.get16-mark.ensures)))
    (λ w. absurd (c.if-tag-mark.true w))
    (λ l. tags_less t y x (omega (arith, c.get16-tag.ensures, c.get16-mark.ensures)))

pub returns-in-One : goal.returns-in-One
returns-in-One c =
    let s = c.args.self.now in
    let t = s.table.table.bytes.now in
    let x = c.args.x in
    let y = c.args.y in
    numbers_same t s.firsts.now s.firsts_are x y c.requires.x_in c.requires.y_in
    (tags_agree t s.firsts.now s.firsts_are x y c.requires.x_in c.requires.y_in (sym c.get16-tag.ensures ∙ c.if-tag-mark.false ∙ c.get16-mark.ensures)
    (sym s.table.table.of_edition ∙ ap edition_in c.in-One.is))

pub order_of_runs-requires : goal.order_of_runs-requires
order_of_runs-requires c =
    let T = (goal.at.order_of_runs-requires c).In-Two in
    (omega (arith, inside T c.args.x c.requires.x_in, c.get16-tag.ensures), omega (arith, inside T c.args.y c.requires.y_in, c.get16-tag.ensures, c.get16-mark.ensures, c.if-tag-mark.false))

pub returns-in-Two : goal.returns-in-Two
returns-in-Two c =
    let s = c.args.self.now in
    let t = s.table.table.bytes.now in
    let x = c.args.x in
    let y = c.args.y in
    let hx = c.requires.x_in in
    let hy = c.requires.y_in in
    let tag = c.get16-tag.result in
    let ex = c.get16-tag.ensures in
    let ey = c.if-tag-mark.false ∙ c.get16-mark.ensures in
    let h = second (goal.at.returns-in-Two c).In-Two in
    order_map c.order_of_runs.result c.order_of_runs.ensures
    (λ q. runs_less t s.firsts.now s.firsts_are x y hx hy tag ex ey h q)
    (λ q. numbers_same t s.firsts.now s.firsts_are x y hx hy (runs_agree t s.firsts.now s.firsts_are x y hx hy tag ex ey h q))
    (λ q. runs_less t s.firsts.now s.firsts_are y x hy hx tag ey ex h q)
