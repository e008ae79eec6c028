-- The labels of a table or an image, in both editions: how many stand behind their counts, and that labels are numbers of 16 bits.
use mathlib.Core.Path.{◌≡◌, refl, sym, ap, ap₂, ◌∙◌}
use mathlib.Core.List.{List}
use Prim.Native.Nat.{ℕ, zero, suc, ◌+◌, ◌*◌, ◌≤◌, ◌<◌}
use native.Mathlib.Decide.{dec_lt}
use native.Mathlib.Omega.{arith}
use lib.ListN.{length, get_or, get_or-eq_default}
use Rattle.paper.specs.Below.{list}
use Rattle.paper.specs.Words.{number16, Bytes}
use Rattle.paper.specs.Labels.{Edition, one, two, label_list, label_count, label, labels_from, labels_behind}
use Rattle.paper.specs.Results.{labels_held_of}
use Rattle.paper.proofs.Sums.{sum_same, sum_bound}
use Rattle.paper.proofs.Words.{number16_below}
use Rattle.paper.proofs.Lists.{length-list, get_or-list}

-- As many labels stand behind the counts as the states have.
pub behind_held : (b : List ℕ) (place n : ℕ) (e : Edition) → labels_behind b place n e ≡ labels_held_of e n (labels_from b place n e)
unfolding labels_behind labels_held_of labels_from
behind_held b place n one = refl
behind_held b place n two =
    sum_same n (label_count b place) (λ s. length (labels_from b place n two s)) (λ s hs. sym (length-list (label_count b place s) (label b place n s)))

-- Their number depends on the labels only.
pub held_same : (e : Edition) (n : ℕ) (labels labels' : ℕ → List ℕ) → ((s : ℕ) → s < n → labels s ≡ labels' s) → labels_held_of e n labels ≡ labels_held_of e n labels'
unfolding labels_held_of
held_same one n labels labels' h = refl
held_same two n labels labels' h = sum_same n (λ s. length (labels s)) (λ s. length (labels' s)) (λ s hs. ap length (h s hs))

-- The labels of a state, where n and the edition go by other names.
pub labels_named : (b : List ℕ) (place s : ℕ) {n n' : ℕ} {e e' : Edition} → n ≡ n' → e ≡ e' → labels_from b place n e s ≡ labels_from b place n' e' s
labels_named b place s N E = ap₂ (λ (n : ℕ) (e : Edition). labels_from b place n e s) N E

-- Where the labels, n and the edition are read, so is their number.
pub behind_same : (b : List ℕ) (place n n' : ℕ) (e e' : Edition) (labels : ℕ → List ℕ) → n ≡ n' → e ≡ e' → ((s : ℕ) → s < n' → labels_from b place n e s ≡ labels s)
    → labels_behind b place n e ≡ labels_held_of e' n' labels
behind_same b place n n' e e' labels N E h =
    behind_held b place n e ∙ ap₂ (λ (x : Edition) (y : ℕ). labels_held_of x y (labels_from b place n e)) E N ∙ held_same e' n' (labels_from b place n e) labels h

-- With at most k for each of n states there are at most n times k.
pub held_bound : (e : Edition) (n k : ℕ) (labels : ℕ → List ℕ) → ((s : ℕ) → s < n → length (labels s) ≤ k) → labels_held_of e n labels ≤ n * k
unfolding labels_held_of
held_bound one n k labels h = omega arith
held_bound two n k labels h = sum_bound n k (λ s. length (labels s)) h

-- Every number of a list has 16 bits.
abbrev pub Small : List ℕ → Type 0
Small ls = (j : ℕ) → get_or ls j 0 < 65536

small_one : (x : ℕ) → x < 65536 → Small (label_list x)
small_one zero h j = omega arith
small_one (suc x) h zero = h
small_one (suc x) h (suc j) = omega arith

small_list : (c : ℕ) (f : ℕ → ℕ) → ((j : ℕ) → f j < 65536) → Small (list c f)
small_list c f h j = go (dec_lt j c)
  where
    go : Dec (j < c) → get_or (list c f) j 0 < 65536
    go (yes l) = rw (get_or-list c j f 0 l) (h j)
    go (no l) = rw (get_or-eq_default (list c f) 0 {n = j} (omega (arith, length-list c f))) (omega arith)

-- The labels in a list of bytes have 16 bits.
pub labels_small : (b : List ℕ) (place n : ℕ) (e : Edition) → Bytes b → (s : ℕ) → Small (labels_from b place n e s)
unfolding labels_from label
labels_small b place n one B s = small_one (number16 b (place + 2 * s)) (number16_below b (place + 2 * s) B)
labels_small b place n two B s = small_list (label_count b place s) (label b place n s) (λ j. number16_below b _ B)
