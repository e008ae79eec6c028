use mathlib.Core.Path.{◌≡◌, refl, sym, ap, ◌∙◌}
use Prim.Native.Nat.{ℕ}
use native.Mathlib.Omega.{arith}
use Rattle.paper.specs.Image.{default_from_of}
use Rattle.paper.specs.View.{default_bad_of}
use Rattle.paper.proofs.Below.{any_more, any_found}
use Rattle.paper.proofs.Tests.{holds_differ, same_differ}
use Rattle.table.proofs.Either.{or_first, or_second}
use Rattle.build.proofs.defaults.list_bad.Invariants.{wrong}
use Rattle.build.proofs.defaults.list_bad.Goals as goal

pub overflow_mul-n : goal.overflow_mul-n
overflow_mul-n c = omega (arith, c.requires)

pub returns-then-ds-n : goal.returns-then-ds-n
returns-then-ds-n c = or_first _ _ ((holds_differ _ _).1 c.if-ds-n.true)

pub loop-s-init : goal.loop-s-init
loop-s-init c = (omega arith, refl)

pub overflow_mul-s : goal.overflow_mul-s
overflow_mul-s c = omega (arith, c.requires)

pub get16-requires : goal.get16-requires
get16-requires c = omega (arith, c.if-ds-n.false, c.loop-s-test.true)

pub default_bad-requires : goal.default_bad-requires
default_bad-requires c = tt

pub returns-then-default_bad : goal.returns-then-default_bad
returns-then-default_bad c =
    let a = c.args in
    or_second _ _ _ (same_differ _ _ c.if-ds-n.false)
    (sym (any_found a.n c.loop-s.s (wrong a.ds.now a.n) c.loop-s-test.true
    (ap (λ (x : ℕ). default_bad_of a.n (default_from_of x)) (sym c.get16.ensures) ∙ sym c.default_bad.ensures ∙ c.if-default_bad.true)))

pub overflow_step-s : goal.overflow_step-s
overflow_step-s c = omega (arith, c.loop-s-test.true)

pub loop-s-smaller : goal.loop-s-smaller
loop-s-smaller c = omega (arith, c.loop-s-test.true)

pub loop-s-preserved : goal.loop-s-preserved
loop-s-preserved c =
    let a = c.args in (
      omega (arith, c.loop-s-test.true),
      any_more c.loop-s.s (wrong a.ds.now a.n) c.loop-s.invariant.1
          (ap (λ (x : ℕ). default_bad_of a.n (default_from_of x)) (sym c.get16.ensures) ∙ sym c.default_bad.ensures ∙ c.if-default_bad.false),
    )

pub returns : goal.returns
returns c =
    let all : c.loop-s.s ≡ c.args.n = omega arith in
    or_second _ _ _ (same_differ _ _ c.if-ds-n.false) (sym (rw all at c.loop-s.invariant.1))
