-- The labels of the one edition as the other has them: how many bytes lists take, the first label of a list, and whose labels they are.
use mathlib.Core.Path.{◌≡◌, refl, sym, ap, fun_ext, ◌∙◌}
use mathlib.Core.List.{List, [], ◌∷◌}
use Prim.Native.Nat.{ℕ, zero, suc, ◌+◌, ◌*◌, ◌≤◌}
use native.Mathlib.Omega.{arith}
use lib.Dec.{ltb}
use lib.ListN.{length, get_or, length-append}
use Rattle.paper.specs.Below.{any, each, sum, list}
use Rattle.paper.specs.Words.{number16, bytes16, all16}
use Rattle.paper.specs.Labels.{Edition, one, two, label_list, label_count, label, labels_from, labels_behind}
use Rattle.paper.specs.Image as image
use Rattle.paper.specs.Results.{label_number_of, label_bytes_of, labels_held_of}
use Rattle.paper.proofs.Below.{any_same, each_same}
use Rattle.paper.proofs.Lists.{length-list, get_or-list}
use Rattle.paper.proofs.Labels.{labels_named}
use Rattle.words.specs.Placed.{placed}
use Rattle.words.proofs.Placed.{placed_nothing}
use Rattle.words.proofs.Behind.{placed-behind}
use Rattle.labels.specs.Tags.{many_of, numbers_from}
use Rattle.relabel.specs.Pieces.{numbered, count_of, list_of, number_of}

-- Two bytes for each label.
length_label : (x : ℕ) → length (all16 (label_list x)) ≡ 2 * length (label_list x)
unfolding bytes16
length_label zero = refl
length_label (suc x) = refl

pub length-listed : (b : List ℕ) (n : ℕ) → length (each n (list_of b)) ≡ 2 * sum n (λ s. length (numbered b s))
length-listed b zero = refl
length-listed b (suc n) = omega (arith, length-append (each n (list_of b)) (list_of b n), length-listed b n, length_label (number16 b (268 + 2 * n)))

-- Two bytes for each count.
pub length-count : (b : List ℕ) (s : ℕ) → length (count_of b s) ≡ 2
unfolding bytes16
length-count b s = refl

pub length-counts : (b : List ℕ) (n : ℕ) → length (each n (count_of b)) ≡ 2 * n
unfolding bytes16
length-counts b zero = refl
length-counts b (suc n) = omega (arith, length-append (each n (count_of b)) (count_of b n), length-counts b n)

-- How many a number stands for: none or one.
pub many_numbered : (b : List ℕ) (s tag many : ℕ) → tag ≡ number16 b (268 + 2 * s) → many ≡ many_of one tag → (many ≡ length (numbered b s)) × (many ≤ 1)
many_numbered b s tag many T M = (M ∙ (go tag).0 ∙ ap (λ (x : ℕ). length (label_list x)) T, omega (arith, (go tag).1))
  where
    go : (x : ℕ) → (many_of one x ≡ length (label_list x)) × (many_of one x ≤ 1)
    go zero = (refl, omega arith)
    go (suc x) = (refl, omega arith)

-- The label that a number stands for, where it stands for none.
pub label_none : (room : List ℕ) (at tag : ℕ) → tag ≡ 0 → (at ≡ at + length (all16 (label_list tag))) × (room ≡ placed room at (all16 (label_list tag)))
label_none room at tag e = rw e (omega arith, sym (placed_nothing room at))

-- Where it stands for one it is that.
label_bytes : (tag : ℕ) → ¬ (tag ≡ 0) → all16 (label_list tag) ≡ bytes16 tag
unfolding bytes16
label_bytes zero h = absurd (h refl)
label_bytes (suc x) h = refl

pub label_wide : (tag : ℕ) → ¬ (tag ≡ 0) → length (all16 (label_list tag)) ≡ 2
unfolding bytes16
label_wide tag h = ap length (label_bytes tag h)

pub label_some : (room now : List ℕ) (at tag : ℕ) → ¬ (tag ≡ 0) → now ≡ placed room at (bytes16 tag)
    → (at + 2 ≡ at + length (all16 (label_list tag))) × (now ≡ placed room at (all16 (label_list tag)))
label_some room now at tag h e = (omega (arith, label_wide tag h), rw (label_bytes tag h) e)

-- The number of labels is that of the first of them, 0 where there are none.
number_first : (ls : List ℕ) → label_number_of ls ≡ get_or ls 0 0
number_first [] = refl
number_first (l ∷ ls) = refl

pub first_none : (b : List ℕ) (from count : ℕ) → count ≡ 0 → 0 ≡ label_number_of (numbers_from b from count)
first_none b from count e = rw e

pub first_some : (b : List ℕ) (from count : ℕ) → ¬ (count ≡ 0) → number16 b from ≡ label_number_of (numbers_from b from count)
first_some b from count h =
    let f : ℕ → ℕ = λ j. number16 b (from + 2 * j) in
    let e : from ≡ from + 2 * 0 = omega arith in
    ap (number16 b) e ∙ sym (number_first (list count f) ∙ get_or-list count 0 f 0 (omega arith))

-- The list of a state in edition 2 stands behind those of the states before it.
pub list_at : (b : List ℕ) (n s from : ℕ) → from ≡ 268 + 2 * n + 2 * sum s (label_count b 268) → numbers_from b from (label_count b 268 s) ≡ labels_from b 268 n two s
unfolding labels_from label
list_at b n s from e =
    let place : (j : ℕ) → from + 2 * j ≡ 268 + 2 * n + 2 * (sum s (label_count b 268) + j) = λ j. omega arith in
    each_same (label_count b 268 s) (λ j. number16 b (from + 2 * j) ∷ []) (λ j. label b 268 n s j ∷ []) (λ j hj. ap (λ (x : ℕ). number16 b x ∷ []) (place j))

-- Its number, by the count and the place of its list.
pub number_at : (b : List ℕ) (n s from count number : ℕ) → from ≡ 268 + 2 * n + 2 * sum s (label_count b 268) → count ≡ label_count b 268 s → number ≡ label_number_of (numbers_from b from count)
    → number ≡ label_number_of (labels_from b 268 n two s)
number_at b n s from count number F C X = X ∙ ap (λ (c : ℕ). label_number_of (numbers_from b from c)) C ∙ ap label_number_of (list_at b n s from F)

-- Two bytes for each number.
pub length_number : (b : List ℕ) (n s : ℕ) → length (number_of b n s) ≡ 2
unfolding bytes16
length_number b n s = refl

pub length-numbers : (b : List ℕ) (n i : ℕ) → length (each i (number_of b n)) ≡ 2 * i
unfolding bytes16
length-numbers b n zero = refl
length-numbers b n (suc i) = omega (arith, length-append (each i (number_of b n)) (number_of b n i), length-numbers b n i)

-- The labels of an image in an edition.
pub labels_in : (b : List ℕ) (e : Edition) → image.edition b ≡ e → image.labels b ≡ labels_from b 268 (image.states b) e
unfolding image.labels
labels_in b e E = fun_ext (λ s. labels_named b 268 s refl E)

-- In edition 1 they are those that the numbers stand for.
pub held_numbered : (b : List ℕ) → image.edition b ≡ one → sum (image.states b) (λ s. length (numbered b s)) ≡ labels_held_of two (image.states b) (image.labels b)
unfolding labels_held_of labels_from
held_numbered b E = ap (labels_held_of two (image.states b)) (sym (labels_in b one E))

-- In edition 2 a state has as many as its count says.
pub many_counted : (b : List ℕ) → image.edition b ≡ two → any (image.states b) (λ s. ltb 1 (length (image.labels b s))) ≡ any (image.states b) (λ s. ltb 1 (label_count b 268 s))
unfolding labels_from
many_counted b E =
    any_same (image.states b) (λ s. ltb 1 (length (image.labels b s))) (λ s. ltb 1 (label_count b 268 s))
    (λ s hs. ap (λ (ls : ℕ → List ℕ). ltb 1 (length (ls s))) (labels_in b two E) ∙ ap (ltb 1) (length-list (label_count b 268 s) (label b 268 (image.states b) s)))

-- So they are where the number of states and of labels go by other names.
pub held_counted : (b : List ℕ) (n held : ℕ) → image.edition b ≡ one → n ≡ image.states b → held ≡ labels_held_of two (image.states b) (image.labels b) → sum n (λ s. length (numbered b s)) ≡ held
held_counted b n held E N H = ap (λ (x : ℕ). sum x (λ s. length (numbered b s))) N ∙ held_numbered b E ∙ sym H

-- In edition 2 as many labels stand behind the counts as they say together.
pub counted_behind : (b : List ℕ) (n : ℕ) → image.edition b ≡ two → n ≡ image.states b → sum n (label_count b 268) ≡ image.behind b
unfolding labels_behind
counted_behind b n E N = ap (λ (x : ℕ). sum x (label_count b 268)) N ∙ sym (ap (labels_behind b 268 (image.states b)) E)

-- The labels read in one edition and written in another are the image's.
pub labels_written : (b : List ℕ) (n : ℕ) (e e' : Edition) → image.edition b ≡ e' → n ≡ image.states b → label_bytes_of e n (labels_from b 268 n e') ≡ label_bytes_of e (image.states b) (image.labels b)
labels_written b n e e' E N = ap (λ (x : ℕ). label_bytes_of e x (labels_from b 268 x e')) N ∙ ap (label_bytes_of e (image.states b)) (sym (labels_in b e' E))

-- Lists behind their counts.
pub lists_put : (b r₀ r₁ r₂ : List ℕ) (n : ℕ) → 268 + 2 * n ≤ length r₀ → r₁ ≡ placed r₀ 268 (each n (count_of b)) → r₂ ≡ placed r₁ (268 + 2 * n) (each n (list_of b))
    → r₂ ≡ placed r₀ 268 (label_bytes_of two n (labels_from b 268 n one))
unfolding label_bytes_of labels_from
lists_put b r₀ r₁ r₂ n h e₁ e₂ = placed-behind r₀ r₁ r₂ (each n (count_of b)) (each n (list_of b)) 268 (268 + 2 * n) (omega (arith, length-counts b n)) h e₁ e₂

-- Edition 1 has no labels behind counts, as it is read and as it is written.
pub old_one : (b : List ℕ) → image.edition b ≡ one → labels_held_of (image.edition b) (image.states b) (image.labels b) ≡ 0
unfolding labels_held_of
old_one b E = ap (λ (e : Edition). labels_held_of e (image.states b) (image.labels b)) E

pub held_one : (b : List ℕ) → 0 ≡ labels_held_of one (image.states b) (image.labels b)
unfolding labels_held_of
held_one b = refl
