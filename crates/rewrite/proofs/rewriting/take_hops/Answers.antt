use Rattle.std.proofs.Common.{◌≡◌, ℕ, ◌<◌, take, get_or, ◌∙◌, arith, length-take, length-take-le, length-set}
use Rattle.std.proofs.lemmas.List.{get_or-take}
use Rattle.rewrite.proofs.Hopping.{hop_fits, hop_more, hop_all}
use Rattle.rewrite.proofs.rewriting.take_hops.Goals as goal
use Rattle.rewrite.proofs.rewriting.take_hops.Goals.{In-loop-x}

-- The state of the turn.
abbrev state : In-loop-x → ℕ
state c = get_or (take c.args.n c.args.order.now) c.loop-x.x-index 0

-- It stands at the place in the order.
turn : (c : In-loop-x) → (c.loop-x.x-index < c.args.n) × (state c ≡ get_or c.args.order.now c.loop-x.x-index 0)
turn c =
    let order = c.args.order.now in
    let i = c.loop-x.x-index in
    let h : i < c.args.n = omega (arith, c.loop-x-test.true, length-take c.args.n order) in
    (h, get_or-take c.args.n order i 0 h)

-- It is a state.
below : (c : In-loop-x) → state c < c.args.n
below c = let (h, e) = turn c in rw e (c.requires.1.below c.loop-x.x-index h)

pub loop-x-init : goal.loop-x-init
loop-x-init c = (c.requires.2, λ j h. absurd (omega arith))

pub hop_at-requires : goal.hop_at-requires
hop_at-requires c =
    let l = c.loop-x in
    let T = (goal.at.hop_at-requires c).In-loop-x in
    let (h, e) = turn T in
    (omega (arith, below T, c.requires.0), λ q. hop_fits c.requires.1 l.hop l.x-index (state T) h e (below T) l.invariant.1 c.requires.0 q)

pub loop-x-preserved : goal.loop-x-preserved
loop-x-preserved c =
    let l = c.loop-x in
    let T = (goal.at.loop-x-preserved c).In-loop-x in
    let (h, e) = turn T in (
      length-set l.hop _ c.hop_at.result ∙ l.invariant.0,
      hop_more c.requires.1 l.hop l.x-index (state T) h e (below T) l.invariant.1 c.hop_at.result (omega (arith, below T, c.requires.0, l.invariant.0)) c.hop_at.ensures,
    )

pub returns : goal.returns
returns c =
    let l = c.loop-x in
    let e : l.x-index ≡ c.args.n = omega (arith, length-take-le c.args.n c.args.order.now (omega (arith, c.requires.0))) in
    hop_all c.args.order.now l.hop c.requires.1 l.invariant.0 (rw e at l.invariant.1)
