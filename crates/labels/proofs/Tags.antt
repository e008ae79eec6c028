-- The labels of a state by its tag, in both editions: which they are, how many, and where those of edition 2 stand.
use mathlib.Core.Path.{◌≡◌, refl, ap, ◌∙◌}
use mathlib.Core.List.{List, [], ◌∷◌}
use Prim.Native.Nat.{ℕ, zero, suc, ◌+◌, ◌*◌, ◌≤◌, ◌<◌}
use native.Mathlib.Omega.{arith}
use lib.ListN.{length, get_or}
use Rattle.paper.specs.Below.{sum}
use Rattle.paper.specs.Words.{number16}
use Rattle.paper.specs.Labels.{Edition, one, two, edition_of, label_count, label, labels_from, labels_behind}
use Rattle.paper.proofs.Editions.{one≢two, first_edition, second_edition}
use Rattle.paper.proofs.Below.{each_same}
use Rattle.paper.proofs.Lists.{length-list}
use Rattle.paper.proofs.Sums.{sum-before}
use Rattle.labels.specs.Tags.{tag_of, many_of, numbers_from, tagged, Firsts}

-- There are as many as the tag says.
pub many_tagged : (e : Edition) (b : List ℕ) (from tag : ℕ) → length (tagged e b from tag) ≡ many_of e tag
many_tagged one b from zero = refl
many_tagged one b from (suc l) = refl
many_tagged two b from tag = length-list tag (λ j. number16 b (from + 2 * j))

-- A tag of 0 stands for none.
pub none_tagged : (e : Edition) (b : List ℕ) (from tag : ℕ) → tag ≡ 0 → tagged e b from tag ≡ []
none_tagged one b from tag h = rw h
none_tagged two b from tag h = rw h

-- In edition 1 a tag that is not 0 stands for itself.
pub first_tagged : (b : List ℕ) (from tag word : ℕ) → word < 32768 → ¬ (tag ≡ 0) → tagged (edition_of word) b from tag ≡ tag ∷ []
first_tagged b from zero word h n = absurd (n refl)
first_tagged b from (suc l) word h n = ap (λ (e : Edition). tagged e b from (suc l)) (first_edition word h)

-- In edition 2 it stands for so many numbers from the place on.
pub second_tagged : (b : List ℕ) (from tag word : ℕ) → 32768 ≤ word → tagged (edition_of word) b from tag ≡ numbers_from b from tag
second_tagged b from tag word h = ap (λ (e : Edition). tagged e b from tag) (second_edition word h)

-- So many there are in edition 2.
pub second_many : (tag word : ℕ) → 32768 ≤ word → many_of (edition_of word) tag ≡ tag
second_many tag word h = ap (λ (e : Edition). many_of e tag) (second_edition word h)

-- In edition 1 there is none or one.
pub first_none : (tag word : ℕ) → word < 32768 → tag ≡ 0 → many_of (edition_of word) tag ≡ 0
first_none tag word h e = ap (λ (e : Edition). many_of e tag) (first_edition word h) ∙ ap (many_of one) e

pub first_many : (tag word : ℕ) → word < 32768 → ¬ (tag ≡ 0) → many_of (edition_of word) tag ≡ 1
first_many zero word h n = absurd (n refl)
first_many (suc l) word h n = ap (λ (e : Edition). many_of e (suc l)) (first_edition word h)

-- The labels of a state are those that its tag stands for.
pub labels-tagged : (b : List ℕ) (at n : ℕ) (e : Edition) (firsts : List ℕ) → Firsts b at n e firsts → (s : ℕ) → s < n
    → labels_from b at n e s ≡ tagged e b (at + 2 * get_or firsts s 0) (tag_of b at s)
unfolding labels_from label_count label
labels-tagged b at n one firsts F s hs = refl
labels-tagged b at n two firsts F s hs =
    let place : (j : ℕ) → at + 2 * n + 2 * (sum s (label_count b at) + j) ≡ at + 2 * get_or firsts s 0 + 2 * j = λ j. omega (arith, F refl s hs) in
    each_same (label_count b at s) (λ j. label b at n s j ∷ []) (λ j. number16 b (at + 2 * get_or firsts s 0 + 2 * j) ∷ []) (λ j hj. ap (λ (x : ℕ). number16 b x ∷ []) (place j))

-- In edition 2 they stand before the end of all labels.
pub tagged_in : (b : List ℕ) (at n : ℕ) (e : Edition) (firsts : List ℕ) → Firsts b at n e firsts → (s : ℕ) → s < n → e ≡ two
    → at + 2 * n + 2 * labels_behind b at n e ≤ length b → at + 2 * get_or firsts s 0 + 2 * tag_of b at s ≤ length b
unfolding labels_behind label_count
tagged_in b at n one firsts F s hs e h = absurd (one≢two e)
tagged_in b at n two firsts F s hs e h = omega (arith, F e s hs, sum-before n s (label_count b at) hs)
