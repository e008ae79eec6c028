-- Six numbers of 32 bits at most take eleven bytes each.
use mathlib.Core.Path.{refl, ap}
use mathlib.Core.List.{List, [], ◌∷◌}
use Prim.Native.Nat.{ℕ, ◌≤◌}
use native.Mathlib.Omega.{arith}
use lib.ListN.{length, length-append}
use Rattle.paper.specs.Text.{line}
use Rattle.text.proofs.Line.{line-length}
use borrow.Author.Rules.{rules}
use Rattle.printed.proofs.put_figures.Goals as goal
use Rattle.printed.proofs.put_figures.Goals.{Start}

-- The numbers of the line.
abbrev numbers : Start → List ℕ
numbers c = let f = c.args.f in c.args.bound ∷ f.depth ∷ f.worst ∷ f.stored ∷ f.defaults ∷ f.bytes ∷ []

-- The line takes 66 bytes at most.
short : (c : Start) → length (line (numbers c)) ≤ 66
short c =
    let f = c.args.f in
    line-length c.args.bound (f.depth ∷ f.worst ∷ f.stored ∷ f.defaults ∷ f.bytes ∷ []) (omega arith, (omega arith, (omega arith, (omega arith, (omega arith, (omega arith, refl))))))

pub put_line-requires : goal.put_line-requires
put_line-requires c = (search rules, (omega arith, omega (arith, short (goal.at.put_line-requires c).Start, c.requires)))

pub returns-clause-short : goal.returns-clause-short
returns-clause-short c =
    let start = (goal.at.returns-clause-short c).Start in
    omega (arith, ap (length {A = ℕ}) c.put_line.ensures, length-append c.args.text.now (line (numbers start)), short start)
