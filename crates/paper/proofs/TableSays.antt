-- Each ground of a table is the paper's sentence, both ways.
use mathlib.Core.Path.{◌≡◌, refl}
use mathlib.Core.Bool.{not, ◌||◌}
use mathlib.Core.Logic.{◌⊎◌}
use mathlib.Core.List.{List}
use Prim.Native.Nat.{ℕ, ◌<◌}
use lib.Dec.{leb, eqb}
use lib.ListN.{length}
use Rattle.paper.specs.Below.{any, outside}
use Rattle.paper.specs.Table as table
use Rattle.paper.specs.Table.{table_length, classes_bad_of, table_grounds}
use Rattle.paper.specs.Sentences.{Some, ClassesWrong, table_sentences}
use Rattle.paper.proofs.Tests.{Holds, holds_less, holds_not_below, holds_equal, holds_differ, holds_not, holds_or, holds_some, holds_out_of}
use Rattle.paper.proofs.Sentences.{Says}
use Rattle.paper.proofs.LabelSays.{holds_counts, holds_labels}

-- Classes of so many bytes.
classes-among : (bytes k : ℕ) (class_of : ℕ → ℕ)
    → Holds (any bytes (λ x. leb k (class_of x)) || any k (λ c. not (any bytes (λ x. eqb (class_of x) c))))
    (Some bytes (λ x. ¬ (class_of x < k)) ⊎ Some k (λ c. ¬ Some bytes (λ x. class_of x ≡ c)))
classes-among bytes k class_of =
    holds_or (any bytes (λ x. leb k (class_of x))) (any k (λ c. not (any bytes (λ x. eqb (class_of x) c))))
    (holds_some bytes (λ x. leb k (class_of x)) (λ x. ¬ (class_of x < k)) (λ x l. holds_not_below (class_of x) k))
    (holds_some k (λ c. not (any bytes (λ x. eqb (class_of x) c))) (λ c. ¬ Some bytes (λ x. class_of x ≡ c))
    (λ c l. holds_not (any bytes (λ x. eqb (class_of x) c))
    (holds_some bytes (λ x. eqb (class_of x) c) (λ x. class_of x ≡ c) (λ x h. holds_equal (class_of x) c))))

-- Ground 7: a byte's class not below k, or a class that no byte has.
pub holds_classes : (k : ℕ) (class_of : ℕ → ℕ) → Holds (classes_bad_of k class_of) (ClassesWrong k class_of)
holds_classes = classes-among 256

-- The table's grounds.
pub table_says : (t : List ℕ) → Says (table_grounds t) (table_sentences t)
unfolding table_grounds table_sentences
table_says t =
    let n = table.states t in
    let k = table.classes t in (
      refl,
      holds_less (length t) 6,
      λ _. (
        refl,
        holds_or (outside 1 512 n) (outside 1 256 k) (holds_out_of 1 512 n) (holds_out_of 1 256 k),
        λ _. (
          refl,
          holds_counts t 262 n (table.edition t),
          λ _. (
            refl,
            holds_differ (length t) (table_length n k (table.behind t)),
            λ _. (
              refl,
              holds_not_below (table.start t) n,
              λ _. (
                refl,
                holds_classes k (table.class_of t),
                λ _. (
                  refl,
                  holds_labels t 262 n (table.edition t),
                  λ _. (
                    refl,
                    holds_some n (λ s. any k (λ c. leb n (table.next t s c))) (λ s. Some k (λ c. ¬ (table.next t s c < n)))
                        (λ s hs. holds_some k (λ c. leb n (table.next t s c)) (λ c. ¬ (table.next t s c < n)) (λ c hc. holds_not_below (table.next t s c) n)),
                    λ _. tt,
                  ),
                ),
              ),
            ),
          ),
        ),
      ),
    )
