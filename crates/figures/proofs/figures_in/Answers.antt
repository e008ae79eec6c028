-- An accepted image has room for its records, and each figure is read where it stands.
use mathlib.Core.Path.{refl, ap}
use Rattle.image.proofs.Accepted.{accepted_laid}
use Rattle.view.specs.declared.Counts.{Counts}
use Rattle.figures.proofs.figures_in.Goals as goal

pub defaults_in-defaults-requires : goal.defaults_in-defaults-requires
defaults_in-defaults-requires c = (accepted_laid c.args.image.now c.requires, ap (λ (x : Counts). x.n) c.counted-counts.ensures)

pub returns : goal.returns
returns c =
    (refl, c.get16.ensures, c.get16-2.ensures, ap (λ (x : Counts). x.m) c.counted-counts.ensures, c.defaults_in-defaults.ensures, refl)
