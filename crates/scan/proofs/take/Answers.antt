-- The look-up is handed what is right, and the byte leads to a state of the image, whose tag stands in it.
use mathlib.Core.Path.{ap, ◌∙◌}
use Prim.Native.Nat.{◌<◌}
use native.Mathlib.Omega.{arith}
use Rattle.paper.specs.Image.{states}
use Rattle.facts.proofs.ImageFacts.{image_accepted}
use Rattle.labels.specs.Tags.{tag_of}
use Rattle.running.specs.declared.automaton.Run.{Run}
use Rattle.running.specs.Rules.{image_rules}
use Rattle.running.proofs.Turn.{went_below}
use Rattle.scan.specs.Running.{taken_of}
use Rattle.scan.proofs.Found.{label_in_lem}
use Rattle.scan.proofs.take.Goals as goal
use Rattle.scan.proofs.take.Goals.{After-take}

inside : (c : After-take) → c.take.new.run.state < states c.args.image.now
inside c = went_below (image_rules c.args.image.now) c.args.run.now c.take.new.run c.args.byte c.take.ensures.went c.take.ensures.reached

pub invariant_of-lookup : goal.invariant_of-lookup
invariant_of-lookup c =
    let R = c.requires.0 in
    record { accepted = image_accepted c.args.image.now R.accepted; begin = R.begin; records_is = R.records_is; classes_is = R.classes_is }

pub overflow_mul-run : goal.overflow_mul-run
overflow_mul-run c = omega (arith, inside (goal.at.overflow_mul-run c).After-take, c.requires.0.accepted.few_states)

pub overflow_add-run : goal.overflow_add-run
overflow_add-run c = omega (arith, inside (goal.at.overflow_add-run c).After-take, c.requires.0.accepted.few_states)

pub get16-requires : goal.get16-requires
get16-requires c = omega (arith, label_in_lem c.args.image.now c.requires.0.accepted c.take.new.run.state (inside (goal.at.get16-requires c).After-take))

pub returns : goal.returns
unfolding taken_of
returns c = (c.take.ensures.went, c.get16.ensures ∙ ap (λ (r : Run). tag_of c.args.image.now 268 r.state) c.take.ensures.went)
