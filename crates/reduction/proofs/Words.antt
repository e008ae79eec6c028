-- Words of classes, where they lead, and two states, each of a table of its own, that words of so many classes do not tell apart.
use mathlib.Core.Path.{◌≡◌, refl, ap, ◌∙◌}
use mathlib.Core.List.{List, [], ◌∷◌, ◌++◌}
use Prim.Native.Nat.{ℕ, ◌≤◌, ◌<◌}
use lib.ListN.{length}
use Rattle.paper.specs.Walk.{state_after}

-- Every class of the word is below k.
abbrev pub Word : ℕ → List ℕ → Type 0
Word k [] = ◌≡◌ {A = ℕ} 0 0
Word k (c ∷ w) = (c < k) × Word k w

-- A word and then another.
pub word_append : (k : ℕ) (v w : List ℕ) → Word k v → Word k w → Word k (v ++ w)
word_append k [] w a b = b
word_append k (c ∷ v) w (h, a) b = (h, word_append k v w a b)

-- Where every class leads below n, every word does.
pub word_below : (next : ℕ → ℕ → ℕ) (n k : ℕ) → ((x c : ℕ) → x < n → c < k → next x c < n) → (x : ℕ) (w : List ℕ) → x < n → Word k w → state_after next x w < n
word_below next n k inside x [] h a = h
word_below next n k inside x (c ∷ w) h (hc, a) = word_below next n k inside (next x c) w (inside x c h hc) a

-- Two next functions that agree on the states below n lead to the same states.
pub word_same : (n k : ℕ) (next other : ℕ → ℕ → ℕ) → ((x c : ℕ) → x < n → c < k → next x c < n) → ((x c : ℕ) → x < n → c < k → other x c ≡ next x c)
    → (x : ℕ) (w : List ℕ) → x < n → Word k w → state_after other x w ≡ state_after next x w
word_same n k next other inside same x [] h a = refl
word_same n k next other inside same x (c ∷ w) h (hc, a) =
    ap (λ (y : ℕ). state_after other y w) (same x c h hc) ∙ word_same n k next other inside same (next x c) w (inside x c h hc) a

module _ (k : ℕ) (T U : ℕ → ℕ → ℕ) (lab mark : ℕ → List ℕ) where
  -- Words of at most so many classes end in equal labels.
  abbrev pub SameEnds : ℕ → ℕ → ℕ → Type 0
  SameEnds i x y = (w : List ℕ) → length w ≤ i → Word k w → lab (state_after T x w) ≡ mark (state_after U y w)
