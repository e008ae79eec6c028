-- A state without a default is left as it is; to any other the row of its default is copied.
use mathlib.Core.Logic.{◌⊎◌, inl, inr}
use native.Mathlib.Decide.{ℕ_discrete}
use Rattle.std.proofs.Common.{◌≡◌, ℕ, get_or, sym, ap, ◌∙◌, arith}
use mathlib.Core.Option.{some}
use Rattle.paper.specs.Image.{default_from_of}
use Rattle.chains.proofs.Defaults.{from_some}
use Rattle.spread.specs.Rows.{row_at, RowIn, Apart}
use Rattle.spread.proofs.Rows.{apart_rows, root_inherited, copied_inherited}
use Rattle.spread.proofs.Set.{small}
use Rattle.spread.proofs.Spread.copy_default.Goals as goal
use Rattle.spread.proofs.Spread.copy_default.Goals.{Else-d}

-- The number that is kept as the default of the state.
abbrev number : Else-d → ℕ
number c = get_or c.args.self.now.def.now c.args.s 0

-- It is a default.
named : (c : Else-d) → default_from_of (number c) ≡ some (number c)
named c = from_some (number c) c.if-d.false

-- Its row stands in the room.
row : (c : Else-d) → let a = c.args.self.now in RowIn a.first a.image.k c.args.room.now (number c)
row c = c.requires.1 (number c) (named c)

-- The two rows have no byte in common, or are one.
either : (c : Else-d) {from to : ℕ} → let a = c.args.self.now in from ≡ row_at a.first a.image.k (number c) → to ≡ row_at a.first a.image.k c.args.s → Dec (number c ≡ c.args.s) → Apart from to a.image.k ⊎ (from ≡ to)
either c p q (yes e) = let a = c.args.self.now in inr (p ∙ ap (row_at a.first a.image.k) e ∙ sym q)
either c p q (no w) = let a = c.args.self.now in rw (p, q) (inl (apart_rows a.first a.image.k (number c) c.args.s w))

pub returns-then-d : goal.returns-then-d
returns-then-d c = let a = c.args.self.now in root_inherited a.def.now c.args.room.now a.first a.image.k c.args.s c.if-d.true

pub row_at-from-requires : goal.row_at-from-requires
row_at-from-requires c =
    let S = small c.args.self.now in
    (S.0, S.1, omega (arith, (row (goal.at.row_at-from-requires c).Else-d).0))

pub row_at-to-requires : goal.row_at-to-requires
row_at-to-requires c = let S = small c.args.self.now in (S.0, S.1, omega arith)

pub copy_row-requires : goal.copy_row-requires
copy_row-requires c =
    let a = c.args.self.now in
    let from = c.row_at-from.ensures in
    let to = c.row_at-to.ensures in
    let from_in = (row (goal.at.copy_row-requires c).Else-d).1 in
    let to_in = c.requires.0.1 in
    (omega arith, omega arith, either (goal.at.copy_row-requires c).Else-d from to (ℕ_discrete (number (goal.at.copy_row-requires c).Else-d) c.args.s))

pub returns : goal.returns
returns c =
    let a = c.args.self.now in
    copied_inherited a.def.now (rw (c.row_at-from.ensures, c.row_at-to.ensures) at c.copy_row.ensures) (named (goal.at.returns c).Else-d)
