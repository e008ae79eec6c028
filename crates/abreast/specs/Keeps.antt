-- What the cells keep for the states of a view, and how its entries wait in bytes.
use Rattle.std.specs.Prelude.{◌≡◌, false, List, ℕ, ◌+◌, ◌-◌, ◌*◌, ◌≤◌, ◌<◌, length, get_or}
use Rattle.std.proofs.Math.Option.{none, some}
use Rattle.paper.specs.View.{View, same_as_default}
use Rattle.paper.specs.Sentences.{Serves}
use Rattle.paper.proofs.Rising.{Rises}
use Rattle.chains.specs.Orders.{StandsBefore}
use Rattle.abreast.specs.Laid.{head_class_of, class_in_of, next_in}
use Rattle.abreast.specs.Turned.{Long}

module _ (v : View) where
  -- The chain of s gives t for the class, in fewer than i hops, and h is 1024 more than they are.
  pub record Served (i s c t h : ℕ) : Type 0 where
    pub server : ℕ
    pub hops : ℕ
    pub near : hops < i
    pub far : h ≡ 1024 + hops
    pub serves : Serves v s c server hops t

  -- What is kept for a state: what its chain gives; for a class that there is not, a number of at most i.
  pub record Keeps (i s c t h : ℕ) : Type 0 where
    pub known : c < v.classes → Served i s c t h
    pub beyond : v.classes ≤ c → h ≤ i

  -- The rows of a view with n states, as far as the sweep asks: entries with rising classes below k, next states below n, and roots that store every class.
  pub record Fits (n : ℕ) : Type 0 where
    pub counted : v.states ≡ n
    pub few_states : n ≤ 512
    pub few_classes : v.classes ≤ 256
    pub rises : (s : ℕ) → s < n → Rises (v.entry_class s) (v.count s)
    pub class_below : (s j : ℕ) → s < n → j < v.count s → v.entry_class s j < v.classes
    pub next_below : (s j : ℕ) → s < n → j < v.count s → v.entry_next s j < n
    pub full : (s : ℕ) → s < n → v.default s ≡ none → v.count s ≡ v.classes

  -- An order of the states in which each stands once, and comes after its default.
  pub record Ordered (n : ℕ) (order : List ℕ) : Type 0 where
    pub below : (i : ℕ) → i < n → get_or order i 0 < n
    pub stands : (s : ℕ) → s < n → StandsBefore order n s
    pub once : (i j : ℕ) → i < n → j < n → get_or order i 0 ≡ get_or order j 0 → i ≡ j
    pub after : (i d : ℕ) → i < n → v.default (get_or order i 0) ≡ some d → StandsBefore order i d

  -- The row that each state falls from: its default's, or row 512.
  pub record Above (n : ℕ) (up : List ℕ) : Type 0 where
    pub root : (s : ℕ) → s < n → v.default s ≡ none → get_or up s 0 ≡ 512
    pub falls : (s d : ℕ) → s < n → v.default s ≡ some d → get_or up s 0 ≡ d

  -- A state's cursor stands before its entry j: the entries before it have classes below c, it and those behind it have not.
  pub record Cursor (c s j : ℕ) : Type 0 where
    pub within : j ≤ v.count s
    pub under : (i : ℕ) → i < j → v.entry_class s i < c
    pub over : (i : ℕ) → j ≤ i → i < v.count s → c ≤ v.entry_class s i

  -- The entries of a state of class c or later wait at a place of some bytes: so many, the first of that class.
  pub record Stands (b : List ℕ) (c s at left class : ℕ) : Type 0 where
    pub entry : ℕ
    pub cursor : Cursor c s entry
    pub left_is : left ≡ v.count s - entry
    pub inside : at + 4 * left ≤ length b
    pub small : length b < 600000
    pub reads_class : (i : ℕ) → i < left → class_in_of b at i ≡ v.entry_class s (entry + i)
    pub reads-next : (i : ℕ) → i < left → next_in b at i ≡ v.entry_next s (entry + i)
    pub class_is : class ≡ head_class_of b at left
    pub class_small : class < 65536

  -- The lists have this for a state, in the bytes of the state.
  abbrev pub StandsIn : (ℕ → List ℕ) → ℕ → List ℕ → List ℕ → List ℕ → ℕ → Type 0
  StandsIn bytes c place left wait s = Stands (bytes s) c s (get_or place s 0) (get_or left s 0) (get_or wait s 0)

  -- The row of a state keeps this for the two classes from `first` on.
  abbrev pub RowKeeps : ℕ → List ℕ → List ℕ → ℕ → ℕ → Type 0
  RowKeeps first to hop i s = (q : ℕ) → q < 2 → Keeps i s (first + q) (get_or to (2 * s + q) 0) (get_or hop (2 * s + q) 0)

  -- No entry of the two classes of a state is what its default's chain gives.
  abbrev pub Needed : ℕ → ℕ → Type 0
  Needed first s = (j : ℕ) → j < v.count s → first ≤ v.entry_class s j → v.entry_class s j < first + 2 → same_as_default v s j ≡ false

-- Row 512 is 65535 and 0.
abbrev pub Bottom : List ℕ → List ℕ → Type 0
Bottom to hop = (q : ℕ) → q < 2 → (get_or to (1024 + q) 0 ≡ 65535) × (get_or hop (1024 + q) 0 ≡ 0)

-- The bytes of every state are the same.
abbrev pub in_one : List ℕ → ℕ → List ℕ
in_one b s = b

-- The two classes from `first` on are done with.
pub record Across (v : View) (bytes : ℕ → List ℕ) (n first : ℕ) (place left wait to hop : List ℕ) : Type 0 where
  pub long : Long place left wait to hop
  pub bottom : Bottom to hop
  pub rows : (s : ℕ) → s < n → RowKeeps v first to hop n s
  pub needed : (s : ℕ) → s < n → Needed v first s
  pub stands : (s : ℕ) → s < n → StandsIn v bytes (first + 2) place left wait s
