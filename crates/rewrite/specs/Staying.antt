-- The defaults of an accepted image that stay, and what its states hold with them.
use Rattle.std.specs.Prelude.{◌≡◌, cond, List, ◌++◌, ℕ, ◌+◌, ◌<◌, eqb, length, get_or}
use Rattle.std.proofs.Math.Option.{some}
use Rattle.paper.specs.Words.{Bytes, bytes16}
use Rattle.paper.specs.View.{View, stored, look}
use Rattle.paper.specs.Image.{states, classes, records_at_of, default, default_from_of, count, image_view}
use Rattle.paper.specs.Results.{table_of}
use Rattle.paper.specs.Rewrite.{kept}
use Rattle.facts.proofs.ImageFacts.{AcceptedImage}
use Rattle.image.specs.Laid.{Begins}
use Rattle.chains.specs.Sweeps.{Falls}
use Rattle.tally.specs.Kept.{shares_few_of}

-- The number of the default that stays: 65535 where a state that keeps so many of k classes shares fewer than two with it.
abbrev pub stay_number : ℕ → ℕ → ℕ → ℕ
stay_number k count d = cond (shares_few_of k count (default_from_of d)) 65535 d

-- The count of a state with the default that stays: k for a root, else as before.
abbrev pub count_after_of : ℕ → ℕ → ℕ → ℕ
count_after_of k count d = cond (eqb d 65535) k count

-- The list holds these numbers for the states below n, by their counts and defaults.
abbrev pub StayNumbers : ℕ → ℕ → List ℕ → List ℕ → List ℕ → Type 0
StayNumbers k n counts def stay = (s : ℕ) → s < n → get_or stay s 0 ≡ stay_number k (get_or counts s 0) (get_or def s 0)

-- The list holds the counts after for the states below n, by their counts before and the defaults that stay.
abbrev pub CountsAfter : ℕ → ℕ → List ℕ → List ℕ → List ℕ → Type 0
CountsAfter k n before stay counts = (s : ℕ) → s < n → get_or counts s 0 ≡ count_after_of k (get_or before s 0) (get_or stay s 0)

-- The list holds the count of each state below n.
abbrev pub RecordCounts : List ℕ → ℕ → List ℕ → Type 0
RecordCounts b n counts = (s : ℕ) → s < n → get_or counts s 0 ≡ count b s

-- The list holds the defaults that stay.
abbrev pub Stays : List ℕ → ℕ → List ℕ → Type 0
Stays b n stay = (s : ℕ) → s < n → default_from_of (get_or stay s 0) ≡ kept (table_of b) s (default b s)

-- The hops of a state for a class, by its default, what it stores and the hops of its default: none for a root or where it stores the class.
abbrev pub hop_at_of : List ℕ → List ℕ → List ℕ → ℕ → ℕ
hop_at_of stay own hop s = cond (eqb (get_or stay s 0) 65535) 0 (cond (eqb (get_or own s 0) 65535) (get_or hop (get_or stay s 0) 0 + 1) 0)

-- Each state of a view without a default stores the class.
abbrev pub RootsStore : View → ℕ → ℕ → List ℕ → Type 0
RootsStore v c n stay = (s : ℕ) → s < n → get_or stay s 0 ≡ 65535 → (t : ℕ) × (stored v s c ≡ some t)

-- Each other stores what the list says.
abbrev pub OthersStore : View → ℕ → ℕ → List ℕ → List ℕ → Type 0
OthersStore v c n stay own = (s : ℕ) → s < n → ¬ (get_or stay s 0 ≡ 65535) → stored v s c ≡ default_from_of (get_or own s 0)

-- In every view with these defaults, for every class that its roots store and its other states store as the list says, each state takes the hops that are kept.
pub record Hopped (n : ℕ) (stay own hop : List ℕ) : Type 0 where
  pub long : length hop ≡ 512
  pub hops : (v : View) (c : ℕ) → Falls v n stay → RootsStore v c n stay → OthersStore v c n stay own → (s : ℕ) → s < n → (look v s c).hops ≡ get_or hop s 0

-- The entry of a class of a state that becomes a root.
abbrev pub root_entry : List ℕ → ℕ → ℕ → List ℕ
root_entry b s c = bytes16 c ++ bytes16 (look (image_view b) s c).target

-- An accepted image of n states and k classes, where its entries begin, where its records do, and the defaults that stay.
pub record Setting (b : List ℕ) (n k records : ℕ) (begins stay : List ℕ) : Type 0 where
  pub readable : Bytes b
  pub accepted : AcceptedImage b
  pub states_are : n ≡ states b
  pub classes_are : k ≡ classes b
  pub records_are : records ≡ records_at_of b
  pub begin : Begins b begins
  pub stays : Stays b n stay
