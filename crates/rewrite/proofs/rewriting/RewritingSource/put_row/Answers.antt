-- The entries of a state whose default stays are copied; any other state gets all its classes.
use Rattle.std.proofs.Common.{◌≡◌, ℕ, ◌<◌, List, length, get_or, ap, ◌∙◌, arith}
use Rattle.paper.specs.Below.{each}
use Rattle.paper.specs.Table.{classes}
use Rattle.paper.specs.Image.{entries_part_of}
use Rattle.paper.specs.Results.{table_of}
use Rattle.words.specs.Placed.{placed}
use Rattle.image.proofs.Accepted.{accepted_laid}
use Rattle.build.specs.Pieces.{kept_row}
use Rattle.rewrite.specs.Staying.{root_entry}
use Rattle.rewrite.proofs.Setting.{image_accepted, setting, table_states, table_classes}
use Rattle.rewrite.proofs.Entries.{row_kept, row-root}
use Rattle.rewrite.proofs.rewriting.RewritingSource.put_row.Goals as goal
use Rattle.rewrite.proofs.rewriting.RewritingSource.put_row.Goals.{Start}

-- The state is one of the image's.
below : (c : Start) → c.args.s < c.args.self.now.image.n
below c = omega (arith, table_states c.args.self.now, c.requires.0)

-- n is at most 512.
few : (c : Start) → c.args.s < 512
few c = let I = c.args.self.now.image in omega (arith, below c, I.states_are, (image_accepted I).few_states)

-- With the image's default its entries are those of the image.
kept : (c : Start) → let r = c.args.self.now in let t = table_of r.image.bytes.now in
    get_or r.def.now c.args.s 0 ≡ get_or r.stay.now c.args.s 0 → entries_part_of r.image.bytes.now c.args.s ≡ kept_row t (classes t) r.stay.now c.args.s
kept c e =
    let r = c.args.self.now in
    row_kept (setting r) r.def.now r.falls c.args.s (below c) e ∙ ap (λ (k : ℕ). kept_row (table_of r.image.bytes.now) k r.stay.now c.args.s) (table_classes r)

-- With another they are those of all classes.
root : (c : Start) → let r = c.args.self.now in let t = table_of r.image.bytes.now in
    (get_or r.def.now c.args.s 0 ≡ get_or r.stay.now c.args.s 0 → ⊥) → each r.image.k (root_entry r.image.bytes.now c.args.s) ≡ kept_row t (classes t) r.stay.now c.args.s
root c ne =
    let r = c.args.self.now in
    row-root (setting r) r.def.now r.falls c.args.s (below c) ne ∙ ap (λ (k : ℕ). kept_row (table_of r.image.bytes.now) k r.stay.now c.args.s) (table_classes r)

pub bounds-self-s : goal.bounds-self-s
bounds-self-s c = omega (arith, few (goal.at.bounds-self-s c).Start)

pub bounds-self-s-2 : goal.bounds-self-s-2
bounds-self-s-2 c = omega (arith, few (goal.at.bounds-self-s-2 c).Start)

pub entries_of-row-requires : goal.entries_of-row-requires
entries_of-row-requires c =
    let r = c.args.self.now in
    (accepted_laid r.image.bytes.now (image_accepted r.image), r.begin, omega (arith, r.image.states_are, below (goal.at.entries_of-row-requires c).Start))

pub put_bytes-requires : goal.put_bytes-requires
put_bytes-requires c = omega (arith, ap (λ (b : List ℕ). length b) (c.entries_of-row.ensures ∙ kept (goal.at.put_bytes-requires c).Start c.if-d-g.true), c.requires.1)

pub returns-then-d-g : goal.returns-then-d-g
returns-then-d-g c =
    let e = c.entries_of-row.ensures ∙ kept (goal.at.returns-then-d-g c).Start c.if-d-g.true in
    (omega (arith, ap (λ (b : List ℕ). length b) e), c.put_bytes.ensures ∙ ap (placed c.args.room.now c.args.at) e)

pub put_root-requires : goal.put_root-requires
put_root-requires c =
    let S = (goal.at.put_root-requires c).Start in
    (below S, omega (arith, ap (λ (b : List ℕ). length b) (root S c.if-d-g.false), c.requires.1))

pub returns : goal.returns
returns c =
    let e = root (goal.at.returns c).Start c.if-d-g.false in
    (omega (arith, ap (λ (b : List ℕ). length b) e, c.put_root.ensures.0), c.put_root.ensures.1 ∙ ap (placed c.args.room.now c.args.at) e)
