-- What must be known of an image before its parts are read.
use Rattle.std.specs.Prelude.{◌≡◌, List, ℕ, suc, ◌+◌, ◌*◌, ◌/◌, ◌≤◌, ◌<◌, length, get_or}
use Rattle.paper.specs.Below.{sum}
use Rattle.paper.specs.Words.{number16}
use Rattle.paper.specs.Image.{states, classes, entries, behind, records_at_of, count, entry_at, image_length_of}
use Rattle.facts.proofs.ImageFacts.{AcceptedImage}

-- The image has the length that its counts and labels give, and its records count its entries.
pub record Laid (b : List ℕ) : Type 0 where
  pub few_states : states b ≤ 512
  pub few_entries : entries b ≤ 131072
  pub few_labels : behind b ≤ 8192
  pub long : length b ≡ image_length_of (states b) (entries b) (behind b)
  pub counted : sum (states b) (count b) ≡ entries b

-- The list says where each state's entries begin, and where the last end.
abbrev pub Begins : List ℕ → List ℕ → Type 0
Begins b begins = (s : ℕ) → s ≤ states b → get_or begins s 0 ≡ entry_at b s 0

-- A row of so many entries, as a part of an image, whose classes rise.
pub record Rising (row : List ℕ) (count : ℕ) : Type 0 where
  pub sized : length row ≡ 4 * count
  pub rises : (j : ℕ) → suc j < count → number16 row (4 * j) < number16 row (4 * suc j)

-- The first j of a row's so many entries have classes below c.
pub record Under (row : List ℕ) (count c j : ℕ) : Type 0 where
  pub within : j ≤ count
  pub lower : (i : ℕ) → i < j → number16 row (4 * i) < c

-- The entries of a row before a place, in bytes, have classes below c.
pub record BelowAt (row : List ℕ) (c at : ℕ) : Type 0 where
  pub entry : ℕ
  pub place : at ≡ 4 * entry
  pub under : Under row (length row / 4) c entry

-- The entries before j have classes below c, and those eight or more places behind it have not.
pub record Near (row : List ℕ) (count c j : ℕ) : Type 0 where
  pub before : Under row count c j
  pub behind : (i : ℕ) → j + 8 ≤ i → i < count → c ≤ number16 row (4 * i)

-- A row whose classes rise and are below k.
pub record Row (row : List ℕ) (k : ℕ) : Type 0 where
  pub rising : Rising row (length row / 4)
  pub below : (j : ℕ) → j < length row / 4 → number16 row (4 * j) < k

-- The image is accepted, and what a look-up is handed beside it is right.
pub record Ready (b begins : List ℕ) (records k : ℕ) : Type 0 where
  pub accepted : AcceptedImage b
  pub begin : Begins b begins
  pub records_is : records ≡ records_at_of b
  pub classes_is : k ≡ classes b
