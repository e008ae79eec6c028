-- A row of numbers copied to another place of the same room, byte by byte or number by number.
use mathlib.Core.Logic.{◌⊎◌, inl, inr}
use native.Mathlib.Decide.{ℕ_discrete, dec_lt, dec_le}
use Rattle.std.proofs.Common.{◌≡◌, ℕ, ◌+◌, ◌-◌, ◌*◌, ◌≤◌, ◌<◌, List, length, ap, ◌∙◌, arith}
use Rattle.std.specs.List.{CopiedTo, SameBelow, SameFrom}
use Rattle.paper.specs.Words.{byte_at, number16, bytes16}
use Rattle.words.specs.Placed.{placed}
use Rattle.spread.specs.Rows.{Apart, RowCopied}
use Rattle.spread.proofs.Placing.{number_same, number_placed}
use Rattle.spread.proofs.Kept.{kept_same, kept_then, kept_number, number_before}

pub row_copied : (old room : List ℕ) (from to k : ℕ) → length room ≡ length old → CopiedTo old room from to (from + 2 * k - from) → SameBelow old room to
    → SameFrom old room (to + (from + 2 * k - from)) → RowCopied old room from to k
row_copied old room from to k long copied below above = record {
  kept = record { long = long; before = λ i h. below i 0 h; behind = λ i h. above i 0 (omega arith) };
  numbers = λ c h. number_same room old (to + 2 * c) (from + 2 * c) (byte (2 * c) (omega arith)) (second c h);
}
  where
    byte : (i : ℕ) → i < 2 * k → byte_at room (to + i) ≡ byte_at old (from + i)
    byte i h =
        let e : from + (to + i - to) ≡ from + i = omega arith in
        copied (to + i) 0 (omega arith) (omega arith) ∙ ap (byte_at old) e

    second : (c : ℕ) → c < k → byte_at room (to + 2 * c + 1) ≡ byte_at old (from + 2 * c + 1)
    second c h =
        let p : to + (2 * c + 1) ≡ to + 2 * c + 1 = omega arith in
        let q : from + (2 * c + 1) ≡ from + 2 * c + 1 = omega arith in
        rw (p, q) at (byte (2 * c + 1) (omega arith))

-- Nothing is copied at the start.
pub copied_none : (room : List ℕ) (from to : ℕ) → RowCopied room room from to 0
copied_none room from to = record { kept = kept_same room to (to + 2 * 0); numbers = λ c h. absurd (omega arith) }

module _ {old room : List ℕ} {from to c : ℕ} (R : RowCopied old room from to c) (k : ℕ) (apart : Apart from to k ⊎ (from ≡ to)) (h : c < k) where
  -- A byte of the row that is copied, of the number at hand or behind it, stays.
  byte_stays : (i : ℕ) → 2 * c ≤ i → i < 2 * k → byte_at room (from + i) ≡ byte_at old (from + i)
  byte_stays i m l = go apart (dec_lt (from + i) to) (dec_le (to + 2 * c) (from + i))
    where
      go : Apart from to k ⊎ (from ≡ to) → Dec (from + i < to) → Dec (to + 2 * c ≤ from + i) → byte_at room (from + i) ≡ byte_at old (from + i)
      go p (yes a) d = R.kept.before (from + i) a
      go p (no a) (yes e) = R.kept.behind (from + i) e
      go (inl p) (no a) (no e) = absurd (p i (from + i - to) l (omega arith) (omega arith))
      go (inr q) (no a) (no e) = absurd (e (omega arith))

  -- So does the number.
  number_stays : number16 room (from + 2 * c) ≡ number16 old (from + 2 * c)
  number_stays =
      let next : from + (2 * c + 1) ≡ from + 2 * c + 1 = omega arith in
      number_same room old (from + 2 * c) (from + 2 * c) (byte_stays (2 * c) (omega arith) (omega arith)) (rw next at (byte_stays (2 * c + 1) (omega arith) (omega arith)))

  -- One number more is copied in each turn.
  pub copied_more : (x : ℕ) → to + 2 * k ≤ length old → x < 65536 → x ≡ number16 room (from + 2 * c) → RowCopied old (placed room (to + 2 * c) (bytes16 x)) from to (c + 1)
  copied_more x fits small e =
      let inside : to + 2 * c + 1 < length room = omega (arith, R.kept.long) in
      let P = kept_number room (to + 2 * c) x inside in
      record {
        kept = kept_then to (to + 2 * (c + 1)) R.kept P (omega arith) (omega arith) (omega arith) (omega arith);
        numbers = λ q l. go inside q l (ℕ_discrete q c);
      }
    where
      go : to + 2 * c + 1 < length room → (q : ℕ) → q < c + 1 → Dec (q ≡ c) → number16 (placed room (to + 2 * c) (bytes16 x)) (to + 2 * q) ≡ number16 old (from + 2 * q)
      go inside q l (yes w) = rw w (number_placed room (to + 2 * c) x inside small ∙ e ∙ number_stays)
      go inside q l (no w) = number_before (kept_number room (to + 2 * c) x inside) (to + 2 * q) (omega arith) ∙ R.numbers q (omega arith)
