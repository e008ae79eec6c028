use Rattle.std.proofs.Common.{ℕ, ◌+◌, ◌<◌, List, length, get_or, set, refl, sym, subst, ◌∙◌, arith, length-set, get_or-set_other, get_or-set_same, below_more, ◌≢◌}
use Rattle.tally.proofs.of_states.Goals as goal

-- One number more.
one_more : (P : ℕ → ℕ → Type 0) (list : List ℕ) (i y : ℕ) → i < length list → ((q : ℕ) → q < i → P q (get_or list q 0)) → P i y → (q : ℕ) → q < i + 1 → P q (get_or (set list i y) q 0)
one_more P list i y l before here =
    below_more (λ q. P q (get_or (set list i y) q 0)) i
    (λ q h. let ne : q ≢ i = omega arith in subst (P q) (sym (get_or-set_other list i q y 0 ne)) (before q h))
    (subst (P i) (sym (get_or-set_same list i y 0 l)) here)

pub loop-s-init : goal.loop-s-init
loop-s-init g c = (refl, λ q h. absurd (omega arith))

pub loop-s-preserved : goal.loop-s-preserved
loop-s-preserved g c =
    let l = c.loop-s in (
      length-set l.list l.s c.f.result ∙ l.invariant.0,
      one_more (λ q x. goal.F-post g c.args.f q x) l.list l.s c.f.result (omega (arith, l.invariant.0, c.requires.few, c.loop-s-test.true)) l.invariant.1 c.f.ensures,
    )

pub returns : goal.returns
returns g c = λ s h. c.loop-s.invariant.1 s (omega arith)
