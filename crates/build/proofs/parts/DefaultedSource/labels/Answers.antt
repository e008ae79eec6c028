-- What stands there are the classes and the labels of the table.
use Rattle.std.proofs.Common.{◌≡◌, ◌+◌, ◌-◌, ◌*◌, arith}
use Rattle.build.proofs.Pieces.{labels_copied}
use Rattle.build.proofs.parts.DefaultedSource.labels.Goals as goal

pub returns : goal.returns
returns c =
    let d = c.args.self.now in
    let t = d.table.table in
    let e : 262 + 2 * t.n + 2 * c.args.held - 6 ≡ 256 + 2 * t.n + 2 * c.args.held = omega arith in
    rw e (labels_copied t.bytes.now t.n c.args.held d.readable t.counted.states_are c.requires (omega (arith, t.counted.long, c.requires)))
