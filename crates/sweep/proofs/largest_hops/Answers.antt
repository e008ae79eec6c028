use Rattle.std.proofs.Common.{◌≡◌, ℕ, Bool, ◌+◌, ◌*◌, max, cond, refl, ap, ◌∙◌, arith}
use lib.ListN.{get_or-replicate}
use Rattle.words.proofs.Front.{largest_front}
use Rattle.sweep.proofs.Sweeping.{sweeping_start, sweeping_more, sweeping_none, sweeping_worst}
use Rattle.sweep.proofs.largest_hops.Goals as goal

pub loop-pair-init : goal.loop-pair-init
loop-pair-init g c =
    let p = c.requires in
    let O = p.3 in
    sweeping_start (g.E.Entries.bytes c.args.entries.now) p.0 (record { place_long = O.place_long; left_long = O.left_long; wait_long = O.wait_long; to_long = refl; hop_long = refl })
    (λ q h. (get_or-replicate 1026 (1024 + q) 65535 0 (omega arith), get_or-replicate 1026 (1024 + q) 0 0 (omega arith))) O.stands

pub two_classes-requires : goal.two_classes-requires
two_classes-requires g c =
    let p = c.requires in
    let I = c.loop-pair.invariant in
    (p.0, p.2, p.3.above, omega (arith, c.loop-pair-test.true, p.0.few_classes, p.1), I.long, I.bottom, I.stands)

pub returns-then-two_classes-clause-needless : goal.returns-then-two_classes-clause-needless
returns-then-two_classes-clause-needless g c = rw (c.two_classes.ensures.1 c.if-two_classes.true)

pub loop-pair-preserved : goal.loop-pair-preserved
loop-pair-preserved g c =
    let p = c.requires in
    let next : 2 * (c.loop-pair.pair + 1) ≡ 2 * c.loop-pair.pair + 2 = omega arith in
    rw next
    (sweeping_more (g.E.Entries.bytes c.args.entries.now) p.0 c.loop-pair.invariant (omega (arith, c.loop-pair-test.true, p.1)) (c.two_classes.ensures.2 c.if-two_classes.false) c.most-most.result
    (c.most-most.ensures ∙ ap (max c.loop-pair.most) (largest_front (2 * c.args.n) c.two_classes.new.hop (omega (arith, p.0.few_states, c.if-two_classes.array_long)))) (omega (arith, c.most-most.type_inv)))

pub returns-clause-needless : goal.returns-clause-needless
returns-clause-needless g c =
    let p = c.requires in
    ap (λ (b : Bool). cond {A = ℕ} b 12 0) (sweeping_none (g.E.Entries.bytes c.args.entries.now) p.0 c.loop-pair.invariant (omega (arith, c.loop-pair-test.false, p.1)))

pub returns-clause-worst : goal.returns-clause-worst
returns-clause-worst g c class_of C =
    let p = c.requires in
    omega (arith, sweeping_worst (g.E.Entries.bytes c.args.entries.now) p.0 c.loop-pair.invariant (omega (arith, c.loop-pair-test.false, p.1)) class_of C)
