-- What is stored here is where the chain goes; else the look-up follows it.
use Rattle.std.proofs.Common.{arith}
use Rattle.rewrite.proofs.Setting.{ready, image_accepted}
use Rattle.rewrite.proofs.Stored.{goes_stored}
use Rattle.rewrite.proofs.rewriting.Rewriting.next_of.Goals as goal

pub returns-then-x-ne65535 : goal.returns-then-x-ne65535
returns-then-x-ne65535 c =
    let a = c.args in
    let I = a.self.now.image in
    goes_stored I.bytes.now (image_accepted I) a.s a.class a.x (omega (arith, I.states_are, c.requires.0)) c.requires.2 c.if-x-ne65535.true

pub overflow_cast-s : goal.overflow_cast-s
overflow_cast-s c = let I = c.args.self.now.image in omega (arith, I.states_are, (image_accepted I).few_states, c.requires.0)

pub look_up-found-requires : goal.look_up-found-requires
look_up-found-requires c =
    let I = c.args.self.now.image in
    (ready c.args.self.now, omega (arith, I.states_are, c.requires.0), omega (arith, I.classes_are, c.requires.1))
