use Rattle.tabled.proofs.Ways.{zeros}
use Rattle.tabled.proofs.table_into.Goals as goal

pub put_all-requires : goal.put_all-requires
put_all-requires c = (c.of_list-classes.ensures.1, zeros 131072, c.none-names.ensures.1, c.none-names.ensures.2)
