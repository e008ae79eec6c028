-- What the functions ask of each other, and each way out, over plain values.
use mathlib.Core.Path.{◌≡◌, refl, sym, ◌∙◌}
use mathlib.Core.List.{List, [], ◌∷◌}
use Prim.Native.Nat.{ℕ, zero, suc, ◌+◌, ◌*◌, ◌≤◌, ◌<◌}
use native.Mathlib.Nat.{mul-le-mul}
use native.Mathlib.Omega.{arith}
use lib.Dec.{ltb}
use lib.ListN.{length, get_or, replicate}
use borrow.Author.Tests.{lt-ltb, le-ltb}
use Rattle.paper.specs.Below.{sum}
use Rattle.paper.specs.Words.{Bytes}
use Rattle.paper.specs.Refusals.{first}
use Rattle.paper.specs.Strings.{rules, string, names, ends, tabulated}
use Rattle.paper.specs.Operations.{building, filled}
use Rattle.paper.specs.Promises.{IsBuilt}
use Rattle.paper.proofs.Counts.{count_le}
use Rattle.paper.proofs.Sums.{sum_bound}
use Rattle.paper.proofs.Refused.{refused, built}
use Rattle.strings.proofs.Classes.{classes_most}
use Rattle.strings.proofs.Listed.{rules-length}
use Rattle.strings.proofs.Shape.{Starts}
use Rattle.strings.proofs.Held.{Held, held_small}
use Rattle.strings.proofs.LevelTurn.{Prepared}
use Rattle.strings.proofs.RowsFilled.{Filled}
use Rattle.strings.proofs.Ready.{grown_prepared, grown_filled}
use Rattle.labelling.specs.Ended.{name_at}
use Rattle.tabled.specs.Sized.{Sized}
use Rattle.tabled.proofs.Assembled.{tabulated_long}

-- An array of zeros has nothing else in it, and 0 behind it.
pub zeros : (n i : ℕ) → get_or (replicate {A = ℕ} n 0) i 0 ≡ 0
zeros zero i = refl
zeros (suc n) zero = refl
zeros (suc n) (suc i) = zeros n i

module _ {b rows parent last long from : List ℕ} {n : ℕ} (H : Held b (names (rules b)) rows parent last long from n) where
  -- The names are ready for the filling.
  pub ready : {starts : List ℕ} {m : ℕ} → Starts b starts m → Bytes b → (links : List ℕ) → get_or links 0 0 ≡ 0 → Prepared (rules b) parent last long n × Filled (rules b) rows links 1 0
  ready S B links z = (
    grown_prepared (rules b) rows parent last long H.grown (omega (arith, rules-length b, S.shape.some)) n H.counted H.few (held_small b (names (rules b)) rows parent last long from n H B),
    grown_filled (rules b) rows parent last long H.grown links z,
  )

module _ {b starts : List ℕ} {m n k : ℕ} {from long counts : List ℕ} (S : Sized b starts m n k from long counts) (few : n ≤ 512) where
  -- There are at most 256 classes.
  pub few_classes : k ≤ 256
  few_classes = omega (arith, S.classes_are, classes_most (rules b))

  -- The counts together are not many.
  pub few_counted : sum n (λ s. get_or counts s 0) ≤ n * 64
  few_counted = sum_bound n 64 (λ s. get_or counts s 0) (λ s h. omega (arith, S.counted s h, count_le m (λ i. ends (string b i) (name_at b from long s)), S.begun.shape.few, S.begun.counted))

  -- So the table is not long.
  pub not_long : (2 * (n * k) ≤ 262144) × (2 * sum n (λ s. get_or counts s 0) ≤ 65536)
  not_long = (omega (arith, mul-le-mul few few_classes), omega (arith, few_counted))

  module _ (room : List ℕ) (whole : ℕ) (e : whole ≡ 262 + 2 * n + 2 * sum n (λ s. get_or counts s 0) + 2 * (n * k)) where
    long_is : length (tabulated b) ≡ whole
    long_is = tabulated_long S ∙ sym e

    -- The room is shorter.
    pub room_short : length room < whole
        → IsBuilt (building (first ((16, ltb (length room) (length (tabulated b))) ∷ [])) (tabulated b) room) 16 0 room
    room_short h =
        refused 16 (first ((16, ltb (length room) (length (tabulated b))) ∷ [])) (tabulated b) room (rw (lt-ltb (length room) (length (tabulated b)) (omega (arith, long_is))) refl) (λ z. absurd (omega arith))

    -- It is long enough.
    pub room_enough : whole ≤ length room → length (tabulated b) ≤ length room
    room_enough h = omega (arith, long_is)

    -- The table is written.
    pub room-filled : (after : List ℕ) → whole ≤ length room → after ≡ filled (tabulated b) room
        → IsBuilt (building (first ((16, ltb (length room) (length (tabulated b))) ∷ [])) (tabulated b) room) 0 whole after
    room-filled after h q =
        built (first ((16, ltb (length room) (length (tabulated b))) ∷ [])) (tabulated b) room after whole (rw (le-ltb (length room) (length (tabulated b)) (omega (arith, long_is)))) (sym long_is) q
