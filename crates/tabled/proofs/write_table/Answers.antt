-- With the rows filled the arrays hold all parts of the table.
use Rattle.std.proofs.Common.{◌≡◌, ℕ, ◌+◌, ◌*◌, ◌<◌, List, length, get_or, ap, ◌∙◌, arith}
use lib.ListN.{replicate}
use Rattle.paper.specs.Strings.{rules, tabulated}
use Rattle.paper.specs.Operations.{filled}
use Rattle.strings.proofs.LevelTurn.{Prepared}
use Rattle.strings.proofs.RowsFilled.{Filled}
use Rattle.strings.proofs.Stands.{goes}
use Rattle.strings.proofs.Ready.{rows_lead}
use Rattle.strings.proofs.Spread.{spread}
use Rattle.tableparts.specs.Pieces.{assembled}
use Rattle.tabled.proofs.Assembled.{assembled_is}
use Rattle.tabled.proofs.Ways.{zeros, ready}
use Rattle.tabled.proofs.write_table.Goals as goal
use Rattle.tabled.proofs.write_table.Goals.{Start, After-fill_all}

-- The names are ready for the filling.
begins : (c : Start) → let a = c.args in let b = a.named.now.list.now.bytes.now in let n = a.named.now.names.now in
    Prepared (rules b) n.parent n.last n.long n.count × Filled (rules b) (spread a.classes.now.of a.rows.now) (replicate {A = ℕ} 512 0) 1 0
begins c =
    let list = c.args.named.now.list.now in
    ready c.requires.0 list.begun list.fits (replicate {A = ℕ} 512 0) (zeros 512 0)

-- The rows lead where they should.
lead : (g : After-fill_all) → (s x : ℕ) → s < g.args.named.now.names.now.count → x < 256
    → get_or (spread g.args.classes.now.of g.fill_all.new.rows) (s * 256 + x) 0 ≡ goes (rules g.args.named.now.list.now.bytes.now) s x
lead g s x hs hx =
    let list = g.args.named.now.list.now in
    let b = list.bytes.now in
    let (P, F) = begins (goal.at.After-fill_all g).Start in
    rows_lead b list.begun.shape (spread g.args.classes.now.of g.fill_all.new.rows) g.fill_all.new.links (g.fill_all.ensures (rules b) P F) s x (omega (arith, g.requires.0.counted)) hx

-- All parts are the table.
whole : (g : After-fill_all) → let a = g.args in let b = a.named.now.list.now.bytes.now in let n = a.named.now.names.now in
    assembled b n.from n.long n.count a.classes.now.count a.classes.now.of a.counts.now g.fill_all.new.rows ≡ tabulated b
whole g =
    let a = g.args in
    assembled_is g.requires.1 g.requires.0.few a.classes.now.of g.fill_all.new.rows g.requires.2 (lead g)

pub fill_all-requires : goal.fill_all-requires
fill_all-requires c =
    let (P, F) = begins (goal.at.fill_all-requires c).Start in
    (rules c.args.named.now.list.now.bytes.now, P, F)

pub emit-requires : goal.emit-requires
emit-requires c =
    (c.requires.1.counted, omega (arith, ap length (whole (goal.at.emit-requires c).After-fill_all), c.requires.3))

pub returns : goal.returns
returns c =
    c.emit.ensures ∙ ap (λ (t : List ℕ). filled t c.args.room.now) (whole (goal.at.returns c).After-fill_all)
