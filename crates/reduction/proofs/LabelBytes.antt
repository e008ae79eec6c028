-- The bytes of labels depend on the labels of the states that there are only.
use mathlib.Core.Path.{◌≡◌, ap, ap₂}
use mathlib.Core.List.{List, ◌++◌}
use Prim.Native.Nat.{ℕ, ◌<◌}
use lib.ListN.{length}
use Rattle.paper.specs.Words.{bytes16, all16}
use Rattle.paper.specs.Labels.{Edition, one, two}
use Rattle.paper.specs.Results.{label_number_of, label_bytes_of}
use Rattle.paper.proofs.Below.{each_same}

pub labels_same : (e : Edition) (n : ℕ) (labels other : ℕ → List ℕ) → ((s : ℕ) → s < n → labels s ≡ other s) → label_bytes_of e n labels ≡ label_bytes_of e n other
unfolding label_bytes_of
labels_same one n labels other h =
    each_same n (λ s. bytes16 (label_number_of (labels s))) (λ s. bytes16 (label_number_of (other s))) (λ s l. ap (λ (x : List ℕ). bytes16 (label_number_of x)) (h s l))
labels_same two n labels other h =
    ap₂ ◌++◌
    (each_same n (λ s. bytes16 (length (labels s))) (λ s. bytes16 (length (other s))) (λ s l. ap (λ (x : List ℕ). bytes16 (length x)) (h s l)))
    (each_same n (λ s. all16 (labels s)) (λ s. all16 (other s)) (λ s l. ap all16 (h s l)))
