-- Each part is put behind the one before it.
use Rattle.std.proofs.Common.{◌≡◌, ◌+◌, ◌-◌, ◌*◌, ℕ, ap, ◌∙◌, arith}
use Rattle.paper.specs.Words.{number16, bytes16}
use Rattle.words.specs.Placed.{placed}
use Rattle.moves.proofs.Filled.{rest_put}
use Rattle.moves.proofs.Known.{few, few_entries}
use Rattle.moves.proofs.put_rest.Goals as goal

pub overflow_cast-m : goal.overflow_cast-m
overflow_cast-m c = omega (arith, few_entries c.args.image.now)

pub put_trailer-requires : goal.put_trailer-requires
put_trailer-requires c = (few c.args.image.now, few_entries c.args.image.now, omega (arith, c.requires.0), omega (arith, c.requires.2))

pub check_before-check-requires : goal.check_before-check-requires
check_before-check-requires c =
    let a = c.args.image.now in
    (omega (arith, c.requires.2), omega arith, omega (arith, few a, few_entries a, c.requires.0))

pub returns : goal.returns
returns c =
    let a = c.args.image.now in
    let count : c.args.from + (4 * a.n + 4 * a.m) - c.args.from ≡ 4 * a.n + 4 * a.m = omega arith in
    rest_put a.bytes.now c.args.room.now _ _ _ a.n a.m c.args.from c.args.held c.get16-worst.result c.requires.2 (omega (arith, c.requires.1)) (c.get16-worst.ensures ∙ ap (number16 a.bytes.now) (omega (arith, c.requires.1)))
    (rw count at c.put_bytes.ensures) c.put_trailer.ensures (c.put16.ensures ∙ ap (λ (x : ℕ). placed c.put_trailer.new.room (268 + 2 * a.n + 2 * c.args.held + (4 * a.n + 4 * a.m) + 10) (bytes16 x)) c.check_before-check.ensures)
