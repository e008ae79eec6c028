-- What is known of the parts of a patch that an image takes.
use mathlib.Core.Path.{◌≡◌}
use mathlib.Core.List.{List}
use Prim.Native.Nat.{ℕ}
use native.Mathlib.Omega.{arith}
use Rattle.paper.specs.Image as image
use Rattle.paper.specs.Patch.{listed_states, entries}
use Rattle.facts.proofs.PatchFacts.{AcceptedPatch, counts_few}
use Rattle.patch.specs.Shaped.{Counts}
use Rattle.patch.specs.Overlay.{Overlay}

module _ {b x : List ℕ} (A : AcceptedPatch b x) where
  -- The patch has the length that its counts give, and its records count its entries.
  pub counts : {p q : ℕ} → p ≡ listed_states x → q ≡ entries x → Counts x p q
  counts {p} {q} P Q =
      record {
        shaped = record {
          listed_are = P;
          entries_are = Q;
          some = omega (arith, A.some_listed);
          few = omega (arith, A.few_listed);
          long = rw (P, Q) A.long;
          small = A.small;
        };
        counted = rw (P, Q) A.counted;
        none_above = λ i h. omega (arith, counts_few b x A.right A.rises A.below i (omega arith), A.accepted.few_classes);
      }

  -- It can be laid over the image.
  pub overlay : {n k m p q : ℕ} → n ≡ image.states b → k ≡ image.classes b → m ≡ image.entries b → p ≡ listed_states x → q ≡ entries x → Overlay b x n k m p q
  overlay N K M P Q =
      let S = A.right in
      record {
        accepted = A.accepted;
        states_are = N;
        classes_are = K;
        entries_are = M;
        counts = counts P Q;
        listed = record { rises = rw P A.rises; below = λ i h. omega (arith, A.below i (omega (arith, P)), N) };
        entered = record {
          total = rw N;
          inside = S.inside;
          full = S.full;
          few = S.few;
          class_below = S.class_below;
          rises = S.rises;
          next_below = S.next_below;
        };
      }
