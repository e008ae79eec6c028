use Rattle.std.proofs.Common.{◌≡◌, ℕ, ◌*◌, ◌≤◌, ◌<◌, max, take, get_or, refl, ap, ◌∙◌, arith, length-take, length-take-le}
use Rattle.std.proofs.lemmas.List.{get_or-take}
use Rattle.words.proofs.Front.{largest_front}
use Rattle.tally.proofs.Eight.{eight_class, hopping_start, row_fits, hopping_more, hopping_done}
use Rattle.tally.proofs.Defaulted.most_hops.Goals as goal
use Rattle.tally.proofs.Defaulted.most_hops.Goals.{In-loop-s}

-- The state at the place.
abbrev state : In-loop-s → ℕ
state c = get_or (take c.args.self.now.table.table.n c.args.order.now) c.loop-s.s-index 0

-- It stands at the place in the order.
turn : (c : In-loop-s) → (c.loop-s.s-index < c.args.self.now.table.table.n) × (state c ≡ get_or c.args.order.now c.loop-s.s-index 0)
turn c =
    let n = c.args.self.now.table.table.n in
    let order = c.args.order.now in
    let i = c.loop-s.s-index in
    let h : i < n = omega (arith, c.loop-s-test.true, length-take n order) in
    (h, get_or-take n order i 0 h)

-- It is a state.
state_below : (c : In-loop-s) → state c < c.args.self.now.table.table.n
state_below c = let (h, e) = turn c in rw e (c.requires.0.below c.loop-s.s-index h)

pub loop-s-init : goal.loop-s-init
loop-s-init c =
    let t = c.args.self.now.table.table in
    hopping_start c.eight_from-classes.result t.counted c.requires.0 c.eight_from-classes.ensures c.requires.1 _ refl

pub put_hops-requires : goal.put_hops-requires
put_hops-requires c =
    let a = c.args.self.now in
    let t = a.table.table in
    let E = c.eight_from-classes.ensures in
    let T = (goal.at.put_hops-requires c).In-loop-s in
    let (h, e) = turn T in (
      state_below T,
      λ d. a.range (state T) (state_below T) d,
      λ j l. (eight_class c.eight_from-classes.result E c.requires.1 j l).0,
      λ d j l. row_fits c.eight_from-classes.result t.counted c.requires.0 E c.requires.1 c.loop-s.invariant h (state T) e d j l,
      c.loop-s.invariant.long,
    )

pub loop-s-preserved : goal.loop-s-preserved
loop-s-preserved c =
    let t = c.args.self.now.table.table in
    let T = (goal.at.loop-s-preserved c).In-loop-s in
    let (h, e) = turn T in
    hopping_more c.eight_from-classes.result t.counted c.requires.0 c.eight_from-classes.ensures c.requires.1 c.loop-s.invariant h (state T) e (state_below T) c.put_hops.ensures

pub returns : goal.returns
returns c =
    let t = c.args.self.now.table.table in
    let l = c.loop-s in
    let all : t.n ≤ l.s-index = omega (arith, c.loop-s-test.false, length-take-le t.n c.args.order.now (omega (arith, t.counted.few_states))) in (
      _,
      c.most.ensures ∙ ap (max c.args.least) (largest_front (8 * t.n) l.hop (omega (arith, t.counted.few_states, l.invariant.long))),
      hopping_done c.eight_from-classes.result t.counted c.requires.0 c.eight_from-classes.ensures c.requires.1 l.invariant all,
    )
