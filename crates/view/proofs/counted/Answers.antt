-- The counts are read one by one.
use Rattle.view.proofs.counted.Goals as goal

pub returns : goal.returns
returns c = rw (c.get16-word.ensures, c.get16-k.ensures, c.get32-m.ensures)
