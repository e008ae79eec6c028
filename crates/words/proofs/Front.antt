-- The largest of the first numbers of a list, as a part of it.
use Rattle.std.proofs.Common.{◌≡◌, ℕ, ◌≤◌, List, length, take, get_or, length-take-le}
use Rattle.paper.specs.Below.{largest}
use Rattle.paper.proofs.Below.{largest_same}
use Rattle.std.proofs.lemmas.List.{get_or-take}

-- It is the largest at the first so many places.
pub largest_front : (n : ℕ) (xs : List ℕ) → n ≤ length xs → largest (length (take n xs)) (λ i. get_or (take n xs) i 0) ≡ largest n (λ i. get_or xs i 0)
largest_front n xs h = rw (length-take-le n xs h) (largest_same n (λ i. get_or (take n xs) i 0) (λ i. get_or xs i 0) (λ i l. get_or-take n xs i 0 l))
