use Rattle.std.proofs.Common.{◌≡◌, ◌+◌, ◌-◌, ◌≤◌, get_or, length, arith, sym}
use Rattle.paper.specs.Strings.{size}
use Rattle.strings.proofs.Strings.{string_inside, size_is, string_part}
use Rattle.wordlist.proofs.WordList.string.Goals as goal
use Rattle.wordlist.proofs.WordList.string.Goals.{After-get16-size}

-- What is read is the length of the string.
read : (c : After-get16-size) → c.get16-size.result ≡ size c.args.self.now.bytes.now c.args.i
read c =
    let list = c.args.self.now in
    size_is list.bytes.now list.starts list.count list.begun c.args.i c.requires c.get16-size.result c.get16-size.ensures

pub get16-size-requires : goal.get16-size-requires
get16-size-requires c =
    let list = c.args.self.now in
    omega (arith, string_inside list.bytes.now list.starts list.count list.begun c.args.i c.requires)

pub slice_bounds-result-end : goal.slice_bounds-result-end
slice_bounds-result-end c =
    let list = c.args.self.now in
    let r = read (goal.at.slice_bounds-result-end c).After-get16-size in
    let h : get_or list.starts c.args.i 0 + 4 + c.get16-size.result ≤ length list.bytes.now = omega (arith, string_inside list.bytes.now list.starts list.count list.begun c.args.i c.requires) in
    h

pub returns : goal.returns
returns c =
    let list = c.args.self.now in
    let x = c.get16-size.result in
    let e : get_or list.starts c.args.i 0 + 4 + x - (get_or list.starts c.args.i 0 + 4) ≡ x = omega arith in
    rw e (sym (string_part list.bytes.now list.starts list.count list.begun c.args.i c.requires x (read (goal.at.returns c).After-get16-size)))
