-- What compact leaves is refused, or an accepted image at the front of the room.
use mathlib.Core.Path.{sym}
use lib.Seq.{length-take-le}
use Rattle.words.proofs.Lent.{fits_bytes}
use Rattle.figures.proofs.Shown.{image_fits, image_accepted, refused_shows, accepted_shows}
use Rattle.figures.proofs.figures_of.Goals as goal

pub returns-then-built-ne0 : goal.returns-then-built-ne0
returns-then-built-ne0 c =
    refused_shows c.args.table.now 0 c.args.bound c.args.room.now c.compact-built.ensures c.if-built-ne0.true

pub slice_bounds-figures_in-end : goal.slice_bounds-figures_in-end
slice_bounds-figures_in-end c =
    image_fits c.args.table.now 0 c.args.bound c.args.room.now c.compact-built.ensures

pub slice_bounds-figures_in-end-2 : goal.slice_bounds-figures_in-end-2
slice_bounds-figures_in-end-2 c =
    sym (length-take-le c.compact-built.result.length _ (image_fits c.args.table.now 0 c.args.bound c.args.room.now c.compact-built.ensures))

pub figures_in-requires : goal.figures_in-requires
figures_in-requires c =
    image_accepted c.args.table.now 0 c.args.bound c.args.room.now c.compact-built.ensures
    (fits_bytes c.args.table.now c.type_inv.table) c.if-built-ne0.false

pub returns : goal.returns
returns c =
    let (number, deep, far, stored, defaults, bytes) = c.figures_in.ensures in
    accepted_shows c.args.table.now 0 c.args.bound c.args.room.now c.compact-built.ensures c.if-built-ne0.false
    number deep far stored defaults bytes
