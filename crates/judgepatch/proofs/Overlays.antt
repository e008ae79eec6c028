-- What the grounds before the last three leave: the counts of the patch, and with the image an overlay.
use mathlib.Core.Path.{◌≡◌, ◌∙◌}
use mathlib.Core.Bool.{false, not, ◌&&◌, ◌||◌}
use mathlib.Core.List.{List}
use Prim.Native.Nat.{ℕ, ◌+◌, ◌*◌, ◌≤◌, ◌<◌}
use native.Mathlib.Omega.{arith}
use lib.Dec.{ltb}
use borrow.Author.Tests.{ltb-false}
use Rattle.paper.specs.Below.{any, sum, differ, given}
use Rattle.paper.specs.Words.{number16}
use Rattle.paper.specs.View.{default_bad_of, record_bad_of}
use Rattle.paper.specs.Image as image
use Rattle.paper.specs.Image.{states, classes}
use Rattle.paper.specs.Patch.{listed_states, entries, records_at_of, state_at_of, count, patched_view}
use Rattle.paper.proofs.Below.{any_at}
use Rattle.paper.proofs.Rising.{Rises}
use Rattle.paper.proofs.Tests.{or_both, or_neither, not_differ, same_differ}
use Rattle.facts.proofs.EntryFacts.{entered}
use Rattle.facts.proofs.ImageFacts.{AcceptedImage}
use Rattle.image.specs.Forms.{default_of, fallback_from, record_at_of}
use Rattle.contents.specs.Tests.{record_wrong}
use Rattle.patch.specs.Shaped.{Shaped, Counts}
use Rattle.patch.specs.Listed.{Listed}
use Rattle.patch.specs.Overlay.{Overlay}
use Rattle.judgepatch.proofs.Own.{records_wrong, classes_wrong, next_wrong, records_own, classes-own, next-own}

-- A record that is not wrong counts at most k entries.
record_few : (x : List ℕ) (n k i : ℕ) → record_wrong n k (record_at_of x (records_at_of x + 4 * i)) ≡ false → count x i ≤ k
unfolding record_wrong count
record_few x n k i e =
    let d = default_of (fallback_from (number16 x (records_at_of x + 4 * i))) in
    let (_, more) = or_both (default_bad_of n d) (ltb k (count x i) || (not (given d) && differ (count x i) k)) e in
    ltb-false k (count x i) (or_both (ltb k (count x i)) (not (given d) && differ (count x i) k) more).0

-- Where ground 8 does not apply to its own records, the patch counts its entries.
pub counts_so : {x : List ℕ} {p q : ℕ} → Shaped x p q → (n k : ℕ) → k ≤ 256 → records_wrong x n k p || differ (sum p (count x)) q ≡ false → Counts x p q
counts_so {x} {p} {q} S n k few e =
    let (records, sums) = or_both (records_wrong x n k p) (differ (sum p (count x)) q) e in
    record {
      shaped = S;
      counted = not_differ (sum p (count x)) q sums;
      none_above = λ i h. omega (arith, few, record_few x n k i (any_at p i (λ i. record_wrong n k (record_at_of x (records_at_of x + 4 * i))) records h));
    }

-- Where none of the grounds up to 10 applies, image and patch are an overlay.
pub overlay_so : {b x : List ℕ} {n k m p q : ℕ} → AcceptedImage b → n ≡ states b → k ≡ classes b → m ≡ image.entries b → Counts x p q → Listed x p n
    → records_wrong x n k p || differ (sum p (count x)) q ≡ false → classes_wrong x n k p ≡ false → next_wrong x n k p ≡ false → Overlay b x n k m p q
overlay_so {b} {x} {n} {k} {m} {p} {q} A n_is k_is m_is C L g₈ g₉ g₁₀ =
    let v = patched_view b x in
    let p_is = C.shaped.listed_are in
    let up : Rises (state_at_of x) (listed_states x) = λ j h. L.rises j (omega (arith, p_is)) in
    let below : (i : ℕ) → i < listed_states x → state_at_of x i < states b = λ i h. omega (arith, L.below i (omega (arith, p_is)), n_is) in
    let records : records_wrong x (states b) (classes b) (listed_states x) ≡ false
    = rw (n_is, k_is, p_is) at (or_both (records_wrong x n k p) (differ (sum p (count x)) q) g₈).0 in
    let sums = sum n v.count in
    record {
      accepted = A;
      states_are = n_is;
      classes_are = k_is;
      entries_are = m_is;
      counts = C;
      listed = L;
      entered = entered v sums
          (or_neither (any (states b) (record_bad_of v)) _ (records_own b x A up below ∙ records) (same_differ (sum (states b) v.count) sums (rw n_is)))
          (classes-own b x A up below ∙ (rw (k_is, p_is) at g₉))
          (next-own b x A up below ∙ (rw (n_is, p_is) at g₁₀));
    }
