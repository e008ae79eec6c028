-- The editions as the code's enum has them.
use Rattle.paper.specs.Labels as paper
use Rattle.labels.specs.declared.Edition.{Edition}
use Rattle.labels.specs.declared.Edition.TheVariants.{One, Two}

-- The edition that a case of the enum stands for.
abbrev pub edition_in : Edition → paper.Edition
edition_in One = paper.one
edition_in Two = paper.two
