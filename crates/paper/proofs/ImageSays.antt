-- Each ground of an image is the paper's sentence, both ways.
use mathlib.Core.Path.{refl}
use mathlib.Core.Bool.{◌||◌}
use mathlib.Core.Logic.{inl}
use mathlib.Core.List.{List}
use Prim.Native.Nat.{ℕ, ◌+◌, ◌-◌, ◌*◌, ◌<◌}
use native.Mathlib.Decide.{dec_lt}
use native.Mathlib.Omega.{arith}
use lib.ListN.{length, take}
use Rattle.paper.specs.Below.{differ, outside}
use Rattle.paper.specs.Words.{words, check_word_of}
use Rattle.paper.specs.Image as image
use Rattle.paper.specs.Image.{image_length_of, image_view, image_grounds}
use Rattle.paper.specs.Sentences.{OutOf, ClassesWrong, image_sentences}
use Rattle.paper.proofs.Tests.{holds_less, holds_not_below, holds_differ, holds_or, holds_out_of}
use Rattle.paper.proofs.Sentences.{Says}
use Rattle.paper.proofs.LabelSays.{holds_counts, holds_labels}
use Rattle.paper.proofs.TableSays.{holds_classes}
use Rattle.paper.proofs.ViewSays.{view_says}

-- A number that is not below 1 is above 0.
pub some_states : (n : ℕ) → ¬ OutOf 1 512 n → 0 < n
some_states n w = go (dec_lt 0 n)
  where
    go : Dec (0 < n) → 0 < n
    go (yes h) = h
    go (no h) = absurd (w (inl (omega arith)))

-- Where no class is wrong, the class of each byte is below k.
pub all_classed : (k : ℕ) (class_of : ℕ → ℕ) → ¬ ClassesWrong k class_of → (x : ℕ) → x < 256 → class_of x < k
all_classed k class_of w x hx = go (dec_lt (class_of x) k)
  where
    go : Dec (class_of x < k) → class_of x < k
    go (yes h) = h
    go (no h) = absurd (w (inl (x, hx, h)))

-- The image's grounds.
pub image_says : (b : List ℕ) → Says (image_grounds b) (image_sentences b)
unfolding image_grounds image_sentences
image_says b =
    let n = image.states b in
    let k = image.classes b in
    let m = image.entries b in
    let sum = check_word_of (words (take (length b - 2) b)) in (
      refl,
      holds_less (length b) 24,
      λ _. (
        refl,
        holds_or (outside 1 512 n) (outside 1 256 k || outside k (n * k) m) (holds_out_of 1 512 n)
            (holds_or (outside 1 256 k) (outside k (n * k) m) (holds_out_of 1 256 k) (holds_out_of k (n * k) m)),
        λ not_2. (
          refl,
          holds_counts b 268 n (image.edition b),
          λ _. (
            refl,
            holds_differ (length b) (image_length_of n m (image.behind b)),
            λ _. (
              refl,
              holds_or (differ (image.whole_length b) (length b)) (differ (image.distance_back b) (4 * m + 12))
                  (holds_differ (image.whole_length b) (length b)) (holds_differ (image.distance_back b) (4 * m + 12)),
              λ _. (
                refl,
                holds_differ (image.check b) sum,
                λ _. (
                  refl,
                  holds_not_below (image.start b) n,
                  λ _. (
                    refl,
                    holds_classes k (image.class_of b),
                    λ not_7. (
                      refl,
                      holds_labels b 268 n (image.edition b),
                      λ _. view_says (image_view b) (image.class_of b) m (image.depth b) (image.worst b) (some_states n (λ w. not_2 (inl w))) (all_classed k (image.class_of b) not_7),
                    ),
                  ),
                ),
              ),
            ),
          ),
        ),
      ),
    )
