use Rattle.image.proofs.Ready.{lookup-ready}
use Rattle.image.proofs.lookup.Lookup.look_up.Goals as goal

pub look_up-requires : goal.look_up-requires
look_up-requires c = (lookup-ready c.args.self.now, c.requires.0, c.requires.1)
