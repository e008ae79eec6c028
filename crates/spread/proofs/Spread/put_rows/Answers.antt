use Rattle.std.proofs.Common.{◌≡◌, ◌<◌, ℕ, take, get_or, arith, length-take}
use Rattle.std.proofs.lemmas.List.{get_or-take}
use Rattle.spread.specs.Rows.{row_at}
use Rattle.spread.proofs.Kept.{kept_same, kept_then}
use Rattle.spread.proofs.Rows.{row_ends}
use Rattle.spread.proofs.Set.{small}
use Rattle.spread.proofs.Standing.{standing_more}
use Rattle.spread.proofs.Spread.put_rows.Goals as goal
use Rattle.spread.proofs.Spread.put_rows.Goals.{In-loop-s}

-- The state of the turn.
abbrev state : In-loop-s → ℕ
state c = get_or (take c.args.self.now.image.n c.args.order.now) c.loop-s.s-index 0

-- It stands at the place in the order.
turn : (c : In-loop-s) → (c.loop-s.s-index < c.args.self.now.image.n) × (state c ≡ get_or c.args.order.now c.loop-s.s-index 0)
turn c =
    let n = c.args.self.now.image.n in
    let order = c.args.order.now in
    let i = c.loop-s.s-index in
    let h : i < n = omega (arith, c.loop-s-test.true, length-take n order) in
    (h, get_or-take n order i 0 h)

-- It is a state.
state_below : (c : In-loop-s) → state c < c.args.self.now.image.n
state_below c = let (h, e) = turn c in rw e (c.requires.1.below c.loop-s.s-index h)

pub shared_ref_as_front-s-items : goal.shared_ref_as_front-s-items
shared_ref_as_front-s-items c = (small c.args.self.now).2

pub loop-s-init : goal.loop-s-init
loop-s-init c = record { kept = kept_same _ _ _; standing = λ s (j, h, e). absurd (omega arith) }

pub put_row-requires : goal.put_row-requires
put_row-requires c =
    let l = c.loop-s in
    let T = (goal.at.put_row-requires c).In-loop-s in
    let (h, e) = turn T in
    (omega (arith, c.requires.0, l.invariant.kept.long), state_below T, λ d q. l.invariant.standing d (c.requires.1.after l.s-index d h (rw e at q)))

pub loop-s-preserved : goal.loop-s-preserved
loop-s-preserved c =
    let a = c.args.self.now in
    let l = c.loop-s in
    let T = (goal.at.loop-s-preserved c).In-loop-s in
    let (stands, kept) = c.put_row.ensures in record {
      kept = kept_then a.first (row_at a.first a.image.k a.image.n) l.invariant.kept kept (omega arith) (omega arith) (omega arith) (row_ends a.first a.image.n a.image.k (state T) (state_below T));
      standing = standing_more a.image.bytes.now a.first a.image.k (state T) kept c.args.order.now l.s-index l.invariant.standing (turn T).1 stands;
    }

pub returns : goal.returns
returns c =
    let a = c.args.self.now in
    let l = c.loop-s in
    let all : l.s-index ≡ a.image.n = omega arith in
    (λ s h. l.invariant.standing s (rw all (c.requires.1.stands s h)), l.invariant.kept)
