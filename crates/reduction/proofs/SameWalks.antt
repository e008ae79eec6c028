-- Two tables walked side by side from states that go on as partners: as many bytes taken, the same reports.
use mathlib.Core.Path.{◌≡◌, refl, ap, ap₂}
use mathlib.Core.Bool.{Bool, true, false, cond}
use mathlib.Core.List.{List, [], ◌∷◌, ◌++◌}
use Prim.Native.Nat.{ℕ, suc, ◌+◌, ◌/◌, ◌<◌}
use lib.Dec.{leb}
use lib.ListN.{length}
use Rattle.paper.specs.Words.{Bytes}
use Rattle.paper.specs.Table.{class_of, labels}
use Rattle.paper.specs.Walk.{next_on}
use Rattle.paper.specs.Scan.{Run, begun, report_bytes, advanced, run, look_plain, walk_of}
use Rattle.paper.specs.Told.{SameTold}

-- On every byte partners go to partners, which have equal labels.
pub record Partners (t u : List ℕ) (P : ℕ → ℕ → Type 0) : Type 0 where
  pub on : (s r x : ℕ) → x < 256 → P s r → P (next_on t s x) (next_on u r x)
  pub labelled : (s r : ℕ) → P s r → labels t s ≡ labels u r

module _ (t u : List ℕ) (P : ℕ → ℕ → Type 0) (partners : Partners t u P) where
  -- The runs are in partners, and otherwise alike.
  record Beside (a b : Run) : Type 0 where
    states_are : P a.state b.state
    told_same : SameTold a b

  -- They stay so to the end.
  run_beside : (most : ℕ) (payload : List ℕ) (a b : Run) → Bytes payload → Beside a b
      → SameTold (run (look_plain t) (class_of t) (labels t) most payload a) (run (look_plain u) (class_of u) (labels u) most payload b)
  run_beside most [] a b B s = s.told_same
  run_beside most (x ∷ xs) a b B s = go (leb (b.reports + length ls) most) refl (run_beside most xs)
    where
      ks : List ℕ
      ks = labels t (next_on t a.state x)

      ls : List ℕ
      ls = labels u (next_on u b.state x)

      goes : P (next_on t a.state x) (next_on u b.state x)
      goes = partners.on a.state b.state x (B 0) s.states_are

      equal : ks ≡ ls
      equal = partners.labelled (next_on t a.state x) (next_on u b.state x) goes

      T : SameTold a b
      T = s.told_same

      a' : Run
      a' = advanced a (look_plain t a.state (class_of t x)) ks

      b' : Run
      b' = advanced b (look_plain u b.state (class_of u x)) ls

      test : leb (a.reports + length ks) most ≡ leb (b.reports + length ls) most
      test = ap (λ (m : ℕ). leb m most) (ap₂ ◌+◌ T.reports_same (ap length equal))

      beside : Beside a' b'
      beside =
          record {
            states_are = goes;
            told_same = record {
              taken_same = ap (λ (m : ℕ). m + 1) T.taken_same;
              reports_same = ap₂ ◌+◌ T.reports_same (ap length equal);
              written_same = ap₂ ◌++◌ T.written_same (ap₂ report_bytes T.taken_same equal);
            };
          }

      go : (f : Bool) → leb (b.reports + length ls) most ≡ f
          → ((a b : Run) → Bytes xs → Beside a b → SameTold (run (look_plain t) (class_of t) (labels t) most xs a) (run (look_plain u) (class_of u) (labels u) most xs b))
          → SameTold (cond (leb (a.reports + length ks) most) (run (look_plain t) (class_of t) (labels t) most xs a') a)
          (cond (leb (b.reports + length ls) most) (run (look_plain u) (class_of u) (labels u) most xs b') b)
      go true q ih = rw (test, q) (ih a' b' (λ i. B (suc i)) beside)
      go false q ih = rw (test, q) T

  -- Walks from partners, in every room.
  pub walks_same : (s r : ℕ) (payload : List ℕ) (room : ℕ) → Bytes payload → P s r → SameTold (walk_of t s payload room) (walk_of u r payload room)
  unfolding walk_of
  walks_same s r payload room B p =
      run_beside (room / 6) payload (begun s) (begun r) B (record { states_are = p; told_same = record { taken_same = refl; reports_same = refl; written_same = refl } })
