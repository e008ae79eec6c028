use Rattle.std.proofs.Common.{◌≡◌, false, sym, ◌∙◌, ℕ, ◌+◌, ◌≤◌, ◌<◌, get_or, arith}
use native.Mathlib.Decide.{ℕ_discrete}
use borrow.Author.Tests.{lt-ltb}
use Rattle.weights.specs.Weighed.{weight_in}
use Rattle.weights.specs.Next.{Passed}
use Rattle.pairs.specs.Keys.{fits_in, key_in}
use Rattle.pairs.specs.Tie.{order_number}
use Rattle.pairs.proofs.Keys.{key_small}
use Rattle.pairs.proofs.Taken.{taken_short, taken_other}
use Rattle.best.specs.Picked.{key_found, found_of}
use Rattle.best.proofs.Picked.{found_key, picked_passed, picked_unfit, picked_worse, picked_better}
use Rattle.best.proofs.best_in_row.Goals as goal
use Rattle.best.proofs.best_in_row.Goals.{Else-weights-u, then-takes+then-key-best, then-takes+else-key-best, else-takes}

-- A pair of another weight up to the next one of this weight does not fit.
other : (c : Else-weights-u) (h : ℕ) → Passed (weight_in c.args.weights.now c.args.u) (c.loop-v.v + 1) c.args.w h
    → (y : ℕ) → c.loop-v.v ≤ y → y < h → fits_in c.args.weights.now c.args.w c.args.d.now c.args.tree.now c.args.bound c.args.u y ≡ false
other c h P y from to =
    let a = c.args in
    let row = weight_in a.weights.now a.u in
    let far : ℕ → ℕ = λ x. get_or a.d.now x 0 in
    let not_this : ¬ (row y ≡ a.w) = elim (ℕ_discrete y c.loop-v.v) [ yes q ↦ λ e. c.if-weights-u.false (rw q at e) | no q ↦ P y (omega arith) to ] in
    taken_other (row y) a.w (get_or a.tree.now a.u 0) (get_or a.tree.now y 0) (far a.u) (far y) a.bound not_this

pub loop-v-preserved-then-weights-u : goal.loop-v-preserved-then-weights-u
loop-v-preserved-then-weights-u c =
    let a = c.args in
    let l = c.loop-v in
    let i = l.invariant in
    let order = order_number a.tie in
    let fits = fits_in a.weights.now a.w a.d.now a.tree.now a.bound in
    let key = key_in order a.d.now a.long.now in
    let far : ℕ → ℕ = λ x. get_or a.d.now x 0 in
    let best = found_of l.best in
    let own : key_found best ≡ l.best.key = found_key l.best i.few in
    let asked : c.takes.result ≡ fits a.u l.v = rw c.if-weights-u.true c.takes.ensures in
    record {
      after = omega arith;
      within = omega arith;
      few = elim c.if-takes.branch [
        | then-takes+then-key-best w ↦ rw w.best-is (omega arith)
        | then-takes+else-key-best w ↦ rw w.best-is i.few
        | else-takes w ↦ rw w.best-is i.few
      ];
      picked = elim c.if-takes.branch [
        | then-takes+then-key-best w ↦
            let small : w.key_of-key.result < 65536 = omega arith in
            rw (w.best-is, lt-ltb w.key_of-key.result 65536 small)
            (picked_better a.n fits key a.u l.v best i.picked i.after c.loop-v-test.true (sym asked ∙ w.if-takes.true) _ w.key_of-key.ensures (omega arith))
        | then-takes+else-key-best w ↦
            let short = taken_short a.w a.w (get_or a.tree.now a.u 0) (get_or a.tree.now l.v 0) (far a.u) (far l.v) a.bound c.takes.result c.takes.ensures w.if-takes.true in
            let most = key_small order (far a.u) (far l.v) (get_or a.long.now a.u 0) (get_or a.long.now l.v 0) in
            rw w.best-is (picked_worse a.n fits key a.u l.v best i.picked _ w.key_of-key.ensures (omega (arith, most, short)) (omega arith))
        | else-takes w ↦ rw w.best-is (picked_unfit a.n fits key a.u l.v best i.picked (sym asked ∙ w.if-takes.false))
      ];
    }

pub loop-v-preserved : goal.loop-v-preserved
loop-v-preserved c =
    let a = c.args in
    let l = c.loop-v in
    let i = l.invariant in
    let found = rw c.in-Some.is at c.next_of.ensures in
    record {
      after = omega (arith, found.0);
      within = omega (arith, found.1);
      few = i.few;
      picked = picked_passed a.n (fits_in a.weights.now a.w a.d.now a.tree.now a.bound) (key_in (order_number a.tie) a.d.now a.long.now) a.u l.v (found_of l.best) i.picked
          c.in-Some.next (omega (arith, found.0)) (other (goal.at.loop-v-preserved c).Else-weights-u c.in-Some.next found.3);
    }

pub returns-in_default : goal.returns-in_default
returns-in_default c =
    let a = c.args in
    let l = c.loop-v in
    let i = l.invariant in
    let none = rw c.in_default.is at c.next_of.ensures in (
      i.few,
      picked_passed a.n (fits_in a.weights.now a.w a.d.now a.tree.now a.bound) (key_in (order_number a.tie) a.d.now a.long.now) a.u l.v (found_of l.best) i.picked
          a.n i.within (other (goal.at.returns-in_default c).Else-weights-u a.n none),
    )
