-- The hops of the states for eight classes at a time: row s is the cells 8s to 8s + 7 of a list.
use Rattle.std.specs.Prelude.{◌≡◌, cond, List, ℕ, ◌+◌, ◌-◌, ◌*◌, ◌≤◌, ◌<◌, ltb, eqb, get_or}
use Rattle.paper.specs.Table.{next}
use Rattle.paper.specs.View.{View, look}

-- The class itself where it is below k, else the last.
abbrev pub last_again_of : ℕ → ℕ → ℕ
last_again_of k c = cond (ltb c k) c (k - 1)

-- The list holds the eight classes from c on, the last again where there are fewer.
abbrev pub Eight : ℕ → ℕ → List ℕ → Type 0
Eight k c classes = (j : ℕ) → j < 8 → get_or classes j 0 ≡ last_again_of k (c + j)

-- The hops of a state for a class, where its default takes h: none where its next state is another, else one more.
abbrev pub hop_number : List ℕ → ℕ → ℕ → ℕ → ℕ → ℕ
hop_number t s d c h = cond (eqb (next t s c) (next t d c)) (h + 1) 0

-- The same by the list of hops; a state without a default takes none.
abbrev pub row_number : List ℕ → ℕ → ℕ → List ℕ → List ℕ → ℕ → ℕ
row_number t s d classes hop j = cond (eqb d 65535) 0 (hop_number t s d (get_or classes j 0) (get_or hop (8 * d + j) 0))

-- The largest hops for the classes from c on, of which there are eight or fewer.
pub record EightMost (v : View) (n k c found : ℕ) : Type 0 where
  pub over : (s x : ℕ) → s < n → x < k → c ≤ x → x < c + 8 → 0 + (look v s x).hops ≤ found
  pub under : (y : ℕ) → 0 ≤ y → ((s x : ℕ) → s < n → x < k → x < c + 8 → 0 + (look v s x).hops ≤ y) → found ≤ y
