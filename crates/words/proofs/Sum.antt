-- The words of bytes summed in sixteen bits, first to last: the carry comes round after every word.
use Rattle.std.proofs.Common.{◌≡◌, ℕ, suc, ◌+◌, ◌-◌, ◌%◌, ◌^◌, ◌<◌, ◌≤◌, Bool, true, false, cond, leb, ◌⊎◌, List, length, drop, sym, refl, ap, ◌∙◌, inl, inr, add-zero, zero-add, add-one, arith, drop_of_length-le, drop-cons, le-leb, leb-false}
use borrow.Author.Tests.{lt-leb}
use Rattle.paper.specs.Words.{Bytes, number16, words, ◌⊕◌, ones_sum}
use Rattle.paper.proofs.Words.{total, rep, rep_same, rep_fits, words_fit, ones_sum_rep}

-- The sum so far fits in sixteen bits, and with the words from i on it comes to the ones' complement sum of all.
abbrev pub Summed : List ℕ → ℕ → ℕ → Type 0
Summed b i sum = (sum ≤ 65535) × (rep (sum + total (words (drop i b))) ≡ ones_sum (words b))

-- The carry comes round: a sum in sixteen bits that came out smaller than the word has wrapped, and one is added.
abbrev pub CarriedRound : ℕ → ℕ → ℕ → Type 0
CarriedRound low w r = ((low < w) × (r ≡ low + 1)) ⊎ ((w ≤ low) × (r ≡ low))

-- That is the ones' complement sum.
carried : (s w low r : ℕ) → s ≤ 65535 → w ≤ 65535 → low ≡ (s + w) % 2 ^ 16 → CarriedRound low w r → (r ≤ 65535) × (r ≡ s ⊕ w)
unfolding ◌⊕◌
carried s w low r h k e (inl (wrapped, q)) = rw (lt-leb (s + w) 65535 (omega arith)) (omega arith, omega arith)
carried s w low r h k e (inr (fits, q)) = rw (le-leb (s + w) 65535 (omega arith)) (omega arith, omega arith)

-- The ones' complement sum of two words may stand for the two, whatever is left to add.
rep_carried : (s w left : ℕ) → rep (s ⊕ w + left) ≡ rep (s + (w + left))
unfolding ◌⊕◌
rep_carried s w left = go (leb (s + w) 65535) refl
  where
    go : (t : Bool) → leb (s + w) 65535 ≡ t → rep (cond t (s + w) (s + w - 65535) + left) ≡ rep (s + (w + left))
    go true e = let same : s + w + left ≡ s + (w + left) = omega arith in ap rep same
    go false e = let l = leb-false (s + w) 65535 e in sym (rep_same (s + (w + left)) (s + w - 65535 + left) 1 (omega arith) (λ p. omega arith))

-- The sum of what is left is the next word and the sum of what is left behind it.
total_next : (b : List ℕ) (i : ℕ) → i + 1 < length b → total (words (drop i b)) ≡ number16 b i + total (words (drop (i + 2) b))
unfolding number16
total_next b i h =
    let two : i + 2 ≡ suc (suc i) = omega arith in
    let h₀ : i < length b = omega arith in
    let h₁ : suc i < length b = omega arith in rw (two, add-one i, drop-cons b i 0 h₀, drop-cons b (suc i) 0 h₁)

-- Before the first word.
pub summed_none : (b : List ℕ) → Bytes b → Summed b 0 0
summed_none b h = (omega arith, rw (zero-add (total (words b))) (sym (ones_sum_rep (words b) (words_fit b h))))

-- One word more.
pub summed_more : (b : List ℕ) (i s w low r : ℕ) → i + 1 < length b → w ≡ number16 b i → w ≤ 65535 → Summed b i s → low ≡ (s + w) % 2 ^ 16 → CarriedRound low w r
    → Summed b (i + 2) r
summed_more b i s w low r h e k (fits, same) l c =
    let left = total (words (drop (i + 2) b)) in
    let q = carried s w low r fits k l c in
    let next : total (words (drop i b)) ≡ w + left = rw e (total_next b i h) in
    (q.0, rw q.1 (rep_carried s w left ∙ ap (λ (x : ℕ). rep (s + x)) (sym next) ∙ same))

-- After the last.
pub summed_all : (b : List ℕ) (i s : ℕ) → length b ≤ i → Summed b i s → s ≡ ones_sum (words b)
summed_all b i s h (fits, same) = sym (rep_fits s fits) ∙ ap rep (sym (add-zero s)) ∙ (rw (drop_of_length-le b h) at same)
