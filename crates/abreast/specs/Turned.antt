-- One state in its turn: its row falls from another, and its entries of the two classes are laid over it.
use Rattle.std.specs.Prelude.{◌≡◌, List, ℕ, ◌+◌, ◌-◌, ◌*◌, ◌≤◌, ◌<◌, length, get_or}
use Rattle.abreast.specs.Rows.{Elsewhere}
use Rattle.abreast.specs.Laid.{head_class_of, class_in_of, next_in, cell_of}

-- The numbers of all other states are as they were.
abbrev pub Others : List ℕ → List ℕ → ℕ → Type 0
Others old new s = (q : ℕ) → ¬ (q ≡ s) → get_or new q 0 ≡ get_or old q 0

-- Where the entries of the states wait, how many, and the class of the first: as these lists have it for a state.
pub record Waiting (place left wait : List ℕ) (s at count class : ℕ) : Type 0 where
  pub place_is : get_or place s 0 ≡ at
  pub left_is : get_or left s 0 ≡ count
  pub class_is : get_or wait s 0 ≡ class
  pub class_small : class < 65536

module _ (b : List ℕ) (first s from : ℕ) (place left to hop : List ℕ) where
  -- The place where the state's entries wait, and how many.
  abbrev at : ℕ
  at = get_or place s 0

  abbrev most : ℕ
  most = get_or left s 0

  -- Row s has fallen from another row, and so many entries are laid over it: none of them is what it fell to, and those behind them are of later classes.
  pub record Turned (wait place' left' wait' to' hop' : List ℕ) : Type 0 where
    pub count : ℕ
    pub within : count ≤ most
    pub past : count < most → first + 2 ≤ class_in_of b at count
    pub in_two : (i : ℕ) → i < count → class_in_of b at i < first + 2
    pub fresh : (i : ℕ) → i < count → ¬ (get_or to (cell_of b at first (2 * from) i) 0 ≡ next_in b at i)
    pub to_laid : (i : ℕ) → i < count → get_or to' (cell_of b at first (2 * s) i) 0 ≡ next_in b at i
    pub hop_laid : (i : ℕ) → i < count → get_or hop' (cell_of b at first (2 * s) i) 0 ≡ 1024
    pub to_fell : (q : ℕ) → q < 2 → ((i : ℕ) → i < count → ¬ (class_in_of b at i ≡ first + q)) → get_or to' (2 * s + q) 0 ≡ get_or to (2 * from + q) 0
    pub hop_fell : (q : ℕ) → q < 2 → ((i : ℕ) → i < count → ¬ (class_in_of b at i ≡ first + q)) → get_or hop' (2 * s + q) 0 ≡ get_or hop (2 * from + q) 0 + 1
    pub to_elsewhere : Elsewhere to to' (2 * s)
    pub hop_elsewhere : Elsewhere hop hop' (2 * s)
    pub waiting : Waiting place' left' wait' s (at + 4 * count) (most - count) (head_class_of b (at + 4 * count) (most - count))
    pub place_others : Others place place' s
    pub left_others : Others left left' s
    pub wait_others : Others wait wait' s

-- The five lists have their lengths.
pub record Long (place left wait to hop : List ℕ) : Type 0 where
  pub place_long : length place ≡ 512
  pub left_long : length left ≡ 512
  pub wait_long : length wait ≡ 512
  pub to_long : length to ≡ 1026
  pub hop_long : length hop ≡ 1026
