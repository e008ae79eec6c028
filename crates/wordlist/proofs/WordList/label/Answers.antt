use Rattle.std.proofs.Common.{arith}
use Rattle.strings.proofs.Strings.{string_inside, label_is}
use Rattle.wordlist.proofs.WordList.label.Goals as goal

pub get16-requires : goal.get16-requires
get16-requires c =
    let list = c.args.self.now in
    omega (arith, string_inside list.bytes.now list.starts list.count list.begun c.args.i c.requires)

pub returns : goal.returns
returns c =
    let list = c.args.self.now in
    label_is list.bytes.now list.starts list.count list.begun c.args.i c.requires c.get16.result c.get16.ensures
