-- Every order from 2 on goes by growth, so an order takes the pairs that the smaller of its number and 2 takes.
use Rattle.std.proofs.Common.{◌≡◌, ℕ, zero, suc, ◌+◌, refl, sym, ap, ◌∙◌, arith, min}
use Rattle.paper.specs.Forest.{Trees, rest}

-- Every order from 2 on has the rest of 2.
rest_more : (order n : ℕ) → rest 2 n ≡ rest (suc (suc order)) n
rest_more order n = refl

-- The rest of an order is that of the smaller of it and 2.
rest_few : (order n : ℕ) → rest (min order 2) n ≡ rest order n
rest_few zero n = refl
rest_few (suc zero) n = refl
rest_few (suc (suc order)) n =
    let e : min (suc (suc order)) 2 ≡ 2 = omega arith in ap (λ (k : ℕ). rest k n) e ∙ rest_more order n

-- So it is that of any number that is the smaller of both.
pub tied_rest : (order number n : ℕ) → number ≡ min order 2 → rest number n ≡ rest order n
tied_rest order number n e = ap (λ (k : ℕ). rest k n) e ∙ rest_few order n
