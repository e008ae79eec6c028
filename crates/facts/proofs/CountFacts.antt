-- Ground 2 as plain facts, and back: the counts are in range.
use mathlib.Core.Path.{◌≡◌}
use mathlib.Core.Bool.{false, ◌||◌}
use Prim.Native.Nat.{ℕ, ◌*◌, ◌≤◌}
use native.Mathlib.Nat.{mul-le-mul}
use native.Mathlib.Omega.{arith}
use Rattle.paper.specs.Below.{outside}
use Rattle.paper.proofs.Tests.{or_both, or_neither, not_outside, within_outside}

-- n states and k classes are in range.
pub record InRange (n k : ℕ) : Type 0 where
  pub some_states : 1 ≤ n
  pub few_states : n ≤ 512
  pub some_classes : 1 ≤ k
  pub few_classes : k ≤ 256

-- They are where ground 2 does not apply to a table.
pub in_range : (n k : ℕ) → outside 1 512 n || outside 1 256 k ≡ false → InRange n k
in_range n k e =
    let (ns, ks) = or_both (outside 1 512 n) (outside 1 256 k) e in
    let (n₁, n₂) = not_outside 1 512 n ns in
    let (k₁, k₂) = not_outside 1 256 k ks in
    record { some_states = n₁; few_states = n₂; some_classes = k₁; few_classes = k₂ }

-- And the other way.
pub in_range_clear : {n k : ℕ} → InRange n k → outside 1 512 n || outside 1 256 k ≡ false
in_range_clear {n} {k} R =
    or_neither (outside 1 512 n) (outside 1 256 k) (within_outside 1 512 n R.some_states R.few_states) (within_outside 1 256 k R.some_classes R.few_classes)

-- n states, k classes and m entries are in range.
pub record AllInRange (n k m : ℕ) : Type 0 where
  pub counts : InRange n k
  pub enough : k ≤ m
  pub not_many : m ≤ n * k

-- They are where ground 2 does not apply to an image.
pub all_in_range : (n k m : ℕ) → outside 1 512 n || (outside 1 256 k || outside k (n * k) m) ≡ false → AllInRange n k m
all_in_range n k m e =
    let (ns, others) = or_both (outside 1 512 n) (outside 1 256 k || outside k (n * k) m) e in
    let (ks, ms) = or_both (outside 1 256 k) (outside k (n * k) m) others in
    let (m₁, m₂) = not_outside k (n * k) m ms in
    record { counts = in_range n k (or_neither (outside 1 512 n) (outside 1 256 k) ns ks); enough = m₁; not_many = m₂ }

-- And the other way.
pub all_in_range_clear : {n k m : ℕ} → AllInRange n k m → outside 1 512 n || (outside 1 256 k || outside k (n * k) m) ≡ false
all_in_range_clear {n} {k} {m} R =
    let (ns, ks) = or_both (outside 1 512 n) (outside 1 256 k) (in_range_clear R.counts) in
    or_neither (outside 1 512 n) (outside 1 256 k || outside k (n * k) m) ns (or_neither (outside 1 256 k) (outside k (n * k) m) ks (within_outside k (n * k) m R.enough R.not_many))

-- Then there are at most 131,072 entries.
pub few_entries : {n k m : ℕ} → AllInRange n k m → m ≤ 131072
few_entries R = omega (arith, R.not_many, mul-le-mul R.counts.few_states R.counts.few_classes)
