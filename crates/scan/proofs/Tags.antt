-- The labels of an accepted image, as the loop asks for them.
use mathlib.Core.Path.{◌≡◌, refl}
use mathlib.Core.List.{List}
use Prim.Native.Nat.{ℕ, ◌≤◌, ◌<◌}
use native.Mathlib.Omega.{arith}
use lib.ListN.{length}
use Rattle.paper.specs.Labels.{Edition, labels_from}
use Rattle.paper.specs.Image.{edition, states, labels}
use Rattle.facts.proofs.LabelFacts.{most_16}
use Rattle.facts.proofs.ImageFacts.{AcceptedImage}
use Rattle.running.specs.Rules.{image_rules, Labelled}
use Rattle.running.proofs.Stands.{Stands}
use Rattle.scan.specs.Running.{Tagged}

module _ (b : List ℕ) (A : AcceptedImage b) (n : ℕ) (n_is : n ≡ states b) (e : Edition) (e_is : e ≡ edition b) where
  few : (s : ℕ) → s < states b → length (labels_from b 268 (states b) (edition b) s) ≤ 16
  unfolding labels
  few s h = omega (arith, (A.all_labelled s h).few, most_16 (edition b))

  pub image_stands : (firsts : List ℕ) → Tagged b firsts e → Stands b 268 n e firsts
  image_stands firsts T =
      rw (n_is, e_is)
      (record { near = omega arith; few_states = A.few_states; there = omega (arith, A.long); few = few; firsts_are = T.firsts_are })

  -- They are those of the states.
  pub image_labelled : Labelled (image_rules b) b 268 n e
  unfolding labels
  image_labelled = rw (n_is, e_is) (record { states_are = refl; labels_are = λ s h. refl })
