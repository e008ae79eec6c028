-- Lists filled place by place: one law for every loop that fills an array.
use mathlib.Core.Path.{◌≡◌, ◌∙◌}
use mathlib.Core.List.{List}
use Prim.Native.Nat.{ℕ, ◌+◌, ◌<◌}
use native.Mathlib.Decide.{ℕ_discrete}
use native.Mathlib.Omega.{arith}
use lib.ListN.{length, get_or, set, length-set}
use lib.Seq.{get_or-set_same, get_or-set_other}

-- The first so many places of the list hold what f gives.
abbrev pub Filled : (ℕ → ℕ) → List ℕ → ℕ → Type 0
Filled f l i = (q : ℕ) → q < i → get_or l q 0 ≡ f q

-- One place more.
pub fill_more : (f : ℕ → ℕ) (l : List ℕ) (i x : ℕ) → i < length l → x ≡ f i → Filled f l i → Filled f (set l i x) (i + 1)
fill_more f l i x h e filled q hq = go (ℕ_discrete q i)
  where
    go : Dec (q ≡ i) → get_or (set l i x) q 0 ≡ f q
    go (yes w) = rw w (get_or-set_same l i x 0 h ∙ e)
    go (no w) = get_or-set_other l i q x 0 w ∙ filled q (omega arith)

-- The list has room for every state, and its first s places hold what f gives.
pub record Fills (f : ℕ → ℕ) (l : List ℕ) (s : ℕ) : Type 0 where
  pub long : length l ≡ 512
  pub filled : Filled f l s

-- At first nothing is filled in.
pub fills_none : {f : ℕ → ℕ} {l : List ℕ} → length l ≡ 512 → Fills f l 0
fills_none e = record { long = e; filled = λ q h. absurd (omega arith) }

-- One state more.
pub fills_more : {f : ℕ → ℕ} {l : List ℕ} {s x : ℕ} → Fills f l s → s < 512 → x ≡ f s → Fills f (set l s x) (s + 1)
fills_more {f} {l} {s} {x} F h e = record {
  long = length-set l s x ∙ F.long;
  filled = fill_more f l s x (omega (arith, F.long)) e F.filled;
}
