-- A run of parts that stand one behind the other is placed in a room at once.
use mathlib.Core.Path.{◌≡◌, sym, ap, ◌∙◌}
use mathlib.Core.List.{List, ◌++◌, append_assoc, append-nil}
use Prim.Native.Nat.{ℕ, zero, suc, ◌+◌, ◌-◌, ◌≤◌}
use native.Mathlib.Nat.{add-zero, add-suc}
use native.Mathlib.Omega.{arith}
use lib.ListN.{length, length-append}
use Rattle.paper.specs.Below.{each}
use Rattle.words.specs.Placed.{placed}
use Rattle.words.proofs.Placed.{length-placed, placed_then}
use Rattle.words.proofs.Laid.{Laid}

-- So many parts of a row from one of them on.
abbrev pub run : (ℕ → List ℕ) → ℕ → ℕ → List ℕ
run f i k = each k (λ t. f (i + t))

-- A row is its first parts and those behind them.
each_split : (f : ℕ → List ℕ) (i k : ℕ) → each (i + k) f ≡ each i f ++ run f i k
each_split f i zero = rw add-zero (sym (append-nil (each i f)))
each_split f i (suc k) =
    ap (λ (x : ℕ). each x f) (add-suc i k) ∙ ap (λ (l : List ℕ). l ++ f (i + k)) (each_split f i k) ∙ append_assoc (each i f) (run f i k) (f (i + k))

-- It is no longer than a longer one.
each_up : (f : ℕ → List ℕ) (i n : ℕ) → i ≤ n → length (each i f) ≤ length (each n f)
each_up f i n h =
    let e : i + (n - i) ≡ n = omega arith in
    omega (arith, ap (λ (x : ℕ). length (each x f)) (sym e), ap length (each_split f i (n - i)), length-append (each i f) (run f i (n - i)))

module _ {room : List ℕ} {at : ℕ} {f : ℕ → List ℕ} {i : ℕ} {now : List ℕ} {here : ℕ} (L : Laid room at f i now here) (n k : ℕ) (within : i + k ≤ n) (fits : at + length (each n f) ≤ length room) where
  -- There is room for the next k parts.
  pub run_room : here + length (run f i k) ≤ length now
  run_room = omega (arith, L.ends, L.as_long, ap length (each_split f i k), length-append (each i f) (run f i k), each_up f (i + k) n within)

  -- With these placed behind them there are k more.
  pub laid_run : (next : List ℕ) (there : ℕ) → there ≡ here + length (run f i k) → next ≡ placed now here (run f i k) → Laid room at f (i + k) next there
  laid_run next there e q =
      let split = each_split f i k in
      record {
        ends = omega (arith, L.ends, ap length split, length-append (each i f) (run f i k));
        as_long = ap length q ∙ length-placed now here (run f i k) run_room ∙ L.as_long;
        laid = q ∙ ap (λ (l : List ℕ). placed l here (run f i k)) L.laid ∙ placed_then room at (each i f) here (sym L.ends) (omega (arith, L.as_long, run_room)) (run f i k) ∙ ap (placed room at) (sym split);
      }
