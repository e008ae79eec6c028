-- Each ground of a word list is the paper's sentence, both ways.
use mathlib.Core.Path.{◌≡◌, refl}
use mathlib.Core.Bool.{◌||◌}
use mathlib.Core.Logic.{◌⊎◌}
use mathlib.Core.List.{List, []}
use Prim.Native.Nat.{ℕ, ◌<◌}
use lib.Dec.{eqb}
use lib.ListN.{length, get_or}
use Rattle.paper.specs.Below.{any, differ, outside}
use Rattle.paper.specs.Strings as list
use Rattle.paper.specs.Strings.{list_bad_of, list_labels_bad, rules, names, labels_ending, too_many_labels, tabulated}
use Rattle.paper.specs.Operations.{strings_grounds}
use Rattle.paper.specs.Sentences.{Some, OutOf, strings_sentences}
use Rattle.paper.proofs.Tests.{Holds, holds_less, holds_equal, holds_differ, holds_or, holds_some, holds_out_of}
use Rattle.paper.proofs.Sentences.{Says}

module _ (b : List ℕ) where
  -- Ground 26: a count or a length out of range, or an end that is not the list's.
  holds_list : Holds (list_bad_of b) (OutOf 1 64 (list.count b) ⊎ (Some (list.count b) (λ i. OutOf 1 32 (list.size b i)) ⊎ (¬ (list.string_at b (list.count b) ≡ length b))))
  unfolding list_bad_of
  holds_list =
      let n = list.count b in
      holds_or (outside 1 64 n) (any n (λ i. outside 1 32 (list.size b i)) || differ (list.string_at b n) (length b)) (holds_out_of 1 64 n)
      (holds_or (any n (λ i. outside 1 32 (list.size b i))) (differ (list.string_at b n) (length b))
      (holds_some n (λ i. outside 1 32 (list.size b i)) (λ i. OutOf 1 32 (list.size b i)) (λ i hi. holds_out_of 1 32 (list.size b i)))
      (holds_differ (list.string_at b n) (length b)))

  -- Ground 27: a label 0, or one that a string before has.
  holds_labels : Holds (list_labels_bad b) (Some (list.count b) (λ i. (list.label b i ≡ 0) ⊎ Some i (λ j. list.label b j ≡ list.label b i)))
  unfolding list_labels_bad
  holds_labels =
      holds_some (list.count b) _ _ (λ i hi. holds_or (eqb (list.label b i) 0) (any i (λ j. eqb (list.label b j) (list.label b i))) (holds_equal (list.label b i) 0)
      (holds_some i (λ j. eqb (list.label b j) (list.label b i)) (λ j. list.label b j ≡ list.label b i) (λ j hj. holds_equal (list.label b j) (list.label b i))))

  -- Ground 19: more than 16 labels on a state.
  holds_many : Holds (too_many_labels (rules b)) (Some (length (names (rules b))) (λ s. 16 < length (labels_ending (rules b) (get_or (names (rules b)) s []))))
  unfolding too_many_labels
  holds_many = holds_some (length (names (rules b))) _ _ (λ s hs. holds_less 16 (length (labels_ending (rules b) (get_or (names (rules b)) s []))))

  -- All grounds of strings.
  pub strings_say : (room : ℕ) → Says (strings_grounds b room) (strings_sentences b room)
  unfolding strings_grounds strings_sentences
  strings_say room = (
    refl,
    holds_list,
    λ _. (refl, holds_labels, λ _. (refl, holds_many, λ _. (refl, holds_less 512 (length (names (rules b))), λ _. (refl, holds_less room (length (tabulated b)), λ _. tt)))),
  )
