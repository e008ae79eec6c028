-- Three numbers of 32 bits at most take eleven bytes each.
use Rattle.std.proofs.Common.{◌≤◌, ◌<◌, [], ◌∷◌, ℕ, length, get_or, refl, ap, length-append, arith, rules}
use Rattle.paper.specs.Text.{line}
use Rattle.text.proofs.Line.{line-length}
use Rattle.counting.proofs.put_state.Goals as goal
use Rattle.counting.proofs.put_state.Goals.{Start}

-- The line takes 33 bytes at most.
short : (s x y : ℕ) → s < 4294967296 → x < 4294967296 → y < 4294967296 → length (line (s ∷ x ∷ y ∷ [])) ≤ 33
short s x y hs hx hy = line-length s (x ∷ y ∷ []) (hs, (hx, (hy, refl)))

pub put_line-requires : goal.put_line-requires
put_line-requires g c =
    let a = c.args in
    (search rules, (omega arith, omega (arith, short a.s (get_or a.served.now a.s 0) (get_or a.ran.now a.s 0) (omega arith) (c.fits-served a.s) (c.fits-ran a.s), c.requires.1)))

pub returns-clause-short : goal.returns-clause-short
returns-clause-short g c =
    let a = c.args in
    omega (
      arith,
      ap (length {A = ℕ}) c.put_line.ensures,
      length-append a.text.now (line (a.s ∷ get_or a.served.now a.s 0 ∷ get_or a.ran.now a.s 0 ∷ [])),
      short a.s (get_or a.served.now a.s 0) (get_or a.ran.now a.s 0) (omega arith) (c.fits-served a.s) (c.fits-ran a.s),
    )
