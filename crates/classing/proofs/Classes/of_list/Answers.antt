-- The bytes of the list are marked.
use Rattle.paper.specs.Strings.{rules}
use Rattle.classing.proofs.Classes.of_list.Goals as goal

pub of_used-requires : goal.of_used-requires
of_used-requires c = (rules c.args.list.now.bytes.now, c.used_of-used.ensures)

pub returns : goal.returns
returns c = c.of_used.ensures (rules c.args.list.now.bytes.now) c.used_of-used.ensures
