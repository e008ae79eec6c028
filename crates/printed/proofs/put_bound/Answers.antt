-- The figures of an accepted table are those of its line.
use Rattle.figures.proofs.Lines.{shows_line}
use Rattle.printed.proofs.put_bound.Goals as goal

pub returns-clause-line : goal.returns-clause-line
returns-clause-line c =
    let same = shows_line c.args.table.now c.args.bound c.args.room.now c.requires.1 c.requires.2 c.figures_of-f.ensures c.requires.0 in
    rw same at c.put_figures.ensures.line
