-- Two scans whose look-ups find the same, with the same labels, are the same, hops and all.
use mathlib.Core.Path.{◌≡◌, refl, ap, ap₂, ◌∙◌}
use mathlib.Core.Bool.{cond}
use mathlib.Core.List.{List, [], ◌∷◌}
use Prim.Native.Nat.{ℕ, suc, ◌+◌, ◌<◌}
use lib.Dec.{leb}
use lib.ListN.{length}
use Rattle.paper.specs.Words.{Bytes}
use Rattle.paper.specs.View.{Found}
use Rattle.paper.specs.Scan.{Run, begun, advanced}
use Rattle.running.specs.Rules.{Rules, found_on, going, run_of}

-- From each state the same is found for each byte, and it is one of the states; each state has the same labels.
pub record Equal (R R' : Rules) : Type 0 where
  pub found_same : (s x : ℕ) → s < R.states → x < 256 → found_on R s x ≡ found_on R' s x
  pub target_below : (s x : ℕ) → s < R.states → x < 256 → (found_on R s x).target < R.states
  pub labels_same : (s : ℕ) → s < R.states → R.labels s ≡ R'.labels s

module _ (R R' : Rules) (A : Equal R R') (most : ℕ) where
  -- From where they are they go on the same.
  going_equal : (xs : List ℕ) → Bytes xs → (r : Run) → r.state < R.states → going R most xs r ≡ going R' most xs r
  going_equal [] B r hs = refl
  going_equal (x ∷ xs) B r hs =
      let f = found_on R r.state x in
      let same = A.found_same r.state x hs (B 0) in
      let below = A.target_below r.state x hs (B 0) in
      ap (λ (q : Run). cond (leb (r.reports + length (R.labels f.target)) most) q r) (going_equal xs (λ i. B (suc i)) (advanced r f (R.labels f.target)) below)
      ∙ ap₂ (λ (g : Found) (ls : List ℕ). cond (leb (r.reports + length ls) most) (going R' most xs (advanced r g ls)) r) same
      (A.labels_same f.target below ∙ ap (λ (g : Found). R'.labels g.target) same)

-- So are the scans over a payload from a state.
pub runs_equal : (R R' : Rules) → Equal R R' → (s : ℕ) (payload : List ℕ) (room : ℕ) → Bytes payload → s < R.states → run_of R s payload room ≡ run_of R' s payload room
runs_equal R R' A s payload room P h = going_equal R R' A _ payload P (begun s) h
