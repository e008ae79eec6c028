-- The grounds as the paper's sentences: the number of each refusal and when it is given, as a proposition beside the test that computes.
use Rattle.std.specs.Prelude.{◌≡◌, ◌⊎◌, List, [], ◌∷◌, ◌++◌, ℕ, suc, ◌+◌, ◌-◌, ◌*◌, ◌≤◌, ◌<◌, length, get_or, take}
use Rattle.std.proofs.Math.Option.{Option, none, some}
use Rattle.paper.specs.Below.{sum}
use Rattle.paper.specs.Words.{words, check_word_of}
use Rattle.paper.specs.Labels.{Edition, one, two, label_count, label}
use Rattle.paper.specs.Table as table
use Rattle.paper.specs.Table.{shared, table_length}
use Rattle.paper.specs.View.{View, stored, steps}
use Rattle.paper.specs.Image as image
use Rattle.paper.specs.Image.{image_length_of, image_view}
use Rattle.paper.specs.Results.{table_view, image_of, moved, table_of}
use Rattle.paper.specs.Rewrite.{rewritten}
use Rattle.paper.specs.Strings as list
use Rattle.paper.specs.Strings.{rules, names, labels_ending, tabulated}
use Rattle.paper.specs.Reduce.{reduced}
use Rattle.paper.specs.Patch as patch
use Rattle.paper.specs.Patch.{patch_length, patched_view, applied}
use Rattle.paper.specs.Operations.{listed, compacted}

-- A sentence: the refusal's number, and when it is given.
abbrev pub Sentence : Type 1
Sentence = ℕ × Type 0

-- The number is that of the first sentence that holds, 0 where none does.
abbrev pub FirstOf : List Sentence → ℕ → Type 0
FirstOf [] number = number ≡ 0
FirstOf (s ∷ ss) number = (s.1 × (number ≡ s.0)) ⊎ ((¬ s.1) × FirstOf ss number)

-- Some number below n is such.
abbrev pub Some : ℕ → (ℕ → Type 0) → Type 0
Some n P = (i : ℕ) × (i < n) × P i

-- The number x is below a or above b.
abbrev pub OutOf : ℕ → ℕ → ℕ → Type 0
OutOf a b x = (x < a) ⊎ (b < x)

-- A byte's class is not below k, or there is a class below k that no byte has.
abbrev pub ClassesWrong : ℕ → (ℕ → ℕ) → Type 0
ClassesWrong k class_of = Some 256 (λ x. ¬ (class_of x < k)) ⊎ Some k (λ c. ¬ Some 256 (λ x. class_of x ≡ c))

module _ (b : List ℕ) (place n : ℕ) (e : Edition) where
  -- In edition 2 a count of labels is above 16, and the input does not end inside the counts.
  abbrev pub CountsWrong : Type 0
  CountsWrong = (e ≡ two) × (place + 2 * n ≤ length b) × Some n (λ s. 16 < label_count b place s)

  -- A label is zero, or not above the one before in its state.
  abbrev pub LabelWrong : ℕ → ℕ → Type 0
  LabelWrong s j = (label b place n s j ≡ 0) ⊎ ((i : ℕ) × (j ≡ suc i) × (¬ (label b place n s i < label b place n s j)))

  -- In edition 2 some label of some state is such.
  abbrev pub LabelsWrong : Type 0
  LabelsWrong = (e ≡ two) × Some n (λ s. Some (label_count b place s) (LabelWrong s))

-- Tables: 1, 2, 19 for the counts of labels, 3, 6, 7, 19 for the labels, 10.
unfoldable pub table_sentences : List ℕ → List Sentence
table_sentences t =
    let n = table.states t in
    let k = table.classes t in
    (1, length t < 6)
    ∷ (2, OutOf 1 512 n ⊎ OutOf 1 256 k)
    ∷ (19, CountsWrong t 262 n (table.edition t))
    ∷ (3, ¬ (length t ≡ table_length n k (table.behind t)))
    ∷ (6, ¬ (table.start t < n))
    ∷ (7, ClassesWrong k (table.class_of t))
    ∷ (19, LabelsWrong t 262 n (table.edition t))
    ∷ (10, Some n (λ s. Some k (λ c. ¬ (table.next t s c < n))))
    ∷ []

module _ (v : View) where
  -- A default that is not below n stands in the place of a default.
  abbrev pub DefaultWrong : Option ℕ → Type 0
  DefaultWrong o = (d : ℕ) × (o ≡ some d) × (¬ (d < v.states))

  -- A record is wrong: a default neither 65535 nor below n, a count above k, or no default and a count other than k.
  abbrev pub RecordWrong : ℕ → Type 0
  RecordWrong s = DefaultWrong (v.default s) ⊎ ((v.classes < v.count s) ⊎ ((v.default s ≡ none) × (¬ (v.count s ≡ v.classes))))

  -- An entry's class is not below k, or not above the one before in its state.
  abbrev pub ClassWrong : ℕ → ℕ → Type 0
  ClassWrong s j = (¬ (v.entry_class s j < v.classes)) ⊎ ((i : ℕ) × (j ≡ suc i) × (¬ (v.entry_class s i < v.entry_class s j)))

  -- Some entry of some state is such.
  abbrev pub SomeEntry : (ℕ → ℕ → Type 0) → Type 0
  SomeEntry P = Some v.states (λ s. Some (v.count s) (P s))

  -- The chain of a state returns to a state: it comes by it twice.
  abbrev pub Returns : ℕ → Type 0
  Returns s = (i : ℕ) × (j : ℕ) × (x : ℕ) × (i < j) × (steps v i s ≡ some x) × (steps v j s ≡ some x)

  -- The chain of a state ends after so many steps at a state without a default.
  pub record Ends (s l : ℕ) : Type 0 where
    pub last : ℕ
    pub reached : steps v l s ≡ some last
    pub root : v.default last ≡ none

  -- The number is that of the longest chain in steps: no chain is longer, and one is so long.
  pub record LongestChain (depth : ℕ) : Type 0 where
    pub none_longer : (s l : ℕ) → s < v.states → Ends s l → l ≤ depth
    pub one_so_long : Some v.states (λ s. Ends s depth)

  -- On the chain of a state a server gives a target for a class after so many hops: it is the state so many steps on and stores the target, and none before it stores the class.
  pub record Serves (s c server hops target : ℕ) : Type 0 where
    pub reached : steps v hops s ≡ some server
    pub stores : stored v server c ≡ some target
    pub passed : (i x : ℕ) → i < hops → steps v i s ≡ some x → stored v x c ≡ none

  -- The number is that of the largest hops over all states and all 256 bytes: none costs more, and one costs so many.
  pub record LargestHops (class_of : ℕ → ℕ) (worst : ℕ) : Type 0 where
    pub none_more : (s x server hops target : ℕ) → s < v.states → x < 256 → Serves s (class_of x) server hops target → hops ≤ worst
    pub one_so_many : Some v.states (λ s. Some 256 (λ x. (server : ℕ) × (target : ℕ) × Serves s (class_of x) server worst target))

  -- An entry is equal to what its state's default's chain gives for its class.
  abbrev pub EntryNeedless : ℕ → ℕ → Type 0
  EntryNeedless s j = (d : ℕ) × (v.default s ≡ some d) × ((server : ℕ) × (hops : ℕ) × Serves d (v.entry_class s j) server hops (v.entry_next s j))

  -- The grounds 8 to 13.
  unfoldable pub view_sentences : (ℕ → ℕ) → ℕ → ℕ → ℕ → List Sentence
  view_sentences class_of m depth worst =
      (8, Some v.states RecordWrong ⊎ (¬ (sum v.states v.count ≡ m)))
      ∷ (9, SomeEntry ClassWrong)
      ∷ (10, SomeEntry (λ s j. ¬ (v.entry_next s j < v.states)))
      ∷ (11, Some v.states Returns)
      ∷ (12, SomeEntry EntryNeedless)
      ∷ (13, (¬ LongestChain depth) ⊎ (¬ LargestHops class_of worst))
      ∷ []

-- Images: 1, 2, 19 for the counts of labels, 3 to 7, 19 for the labels, 8 to 13.
unfoldable pub image_sentences : List ℕ → List Sentence
image_sentences b =
    let n = image.states b in
    let k = image.classes b in
    let m = image.entries b in
    (1, length b < 24)
    ∷ (2, OutOf 1 512 n ⊎ (OutOf 1 256 k ⊎ OutOf k (n * k) m))
    ∷ (19, CountsWrong b 268 n (image.edition b))
    ∷ (3, ¬ (length b ≡ image_length_of n m (image.behind b)))
    ∷ (4, (¬ (image.whole_length b ≡ length b)) ⊎ (¬ (image.distance_back b ≡ 4 * m + 12)))
    ∷ (5, ¬ (image.check b ≡ check_word_of (words (take (length b - 2) b))))
    ∷ (6, ¬ (image.start b < n))
    ∷ (7, ClassesWrong k (image.class_of b))
    ∷ (19, LabelsWrong b 268 n (image.edition b))
    ∷ view_sentences (image_view b) (image.class_of b) m (image.depth b) (image.worst b)

-- Compact: 18 (an order above 3), the table's, 16.
unfoldable pub compact_sentences : List ℕ → ℕ → ℕ → ℕ → List Sentence
compact_sentences t order D room = (18, 3 < order) ∷ (table_sentences t ++ ((16, room < length (compacted t order D)) ∷ []))

-- A default that shares fewer than two classes with its state stands in the place of a default.
abbrev pub NotWorth : List ℕ → ℕ → Option ℕ → Type 0
NotWorth t s o = (d : ℕ) × (o ≡ some d) × (shared t s d < 2)

-- Write: the table's, 8 (list length and values only), 11, 25, 16.
unfoldable pub write_sentences : List ℕ → List ℕ → ℕ → List Sentence
write_sentences t ds room =
    let v = table_view t (listed ds) in
    table_sentences t
    ++ ((8, (¬ (length ds ≡ 2 * table.states t)) ⊎ Some (table.states t) (λ s. DefaultWrong v (listed ds s)))
    ∷ (11, Some (table.states t) (Returns v))
    ∷ (25, Some (table.states t) (λ s. NotWorth t s (listed ds s)))
    ∷ (16, room < length (image_of t (listed ds)))
    ∷ [])

-- Expand: the image's, 16.
unfoldable pub expand_sentences : List ℕ → ℕ → List Sentence
expand_sentences b room = image_sentences b ++ ((16, room < length (table_of b)) ∷ [])

-- Forward: the image's, 20 (the image is not of edition 1), 16.
unfoldable pub forward_sentences : List ℕ → ℕ → List Sentence
forward_sentences b room = image_sentences b ++ ((20, ¬ (image.edition b ≡ one)) ∷ (16, room < length (moved two b)) ∷ [])

-- Back: the image's, 20 (the image is not of edition 2), 21 (a state has more labels than one), 16.
unfoldable pub back_sentences : List ℕ → ℕ → List Sentence
back_sentences b room =
    image_sentences b
    ++ ((20, ¬ (image.edition b ≡ two))
    ∷ (21, Some (image.states b) (λ s. 1 < length (image.labels b s)))
    ∷ (16, room < length (moved one b))
    ∷ [])

-- Rewrite: the image's, 16.
unfoldable pub rewrite_sentences : List ℕ → ℕ → List Sentence
rewrite_sentences b room = image_sentences b ++ ((16, room < length (rewritten b)) ∷ [])

-- Strings: 26 (list shape or lengths), 27 (label 0 or used twice), 19 (more than 16 labels on a state), 28 (more than 512 states), 16.
unfoldable pub strings_sentences : List ℕ → ℕ → List Sentence
strings_sentences b room =
    let count = list.count b in
    let ws = names (rules b) in
    (26, OutOf 1 64 count ⊎ (Some count (λ i. OutOf 1 32 (list.size b i)) ⊎ (¬ (list.string_at b count ≡ length b))))
    ∷ (27, Some count (λ i. (list.label b i ≡ 0) ⊎ Some i (λ j. list.label b j ≡ list.label b i)))
    ∷ (19, Some (length ws) (λ s. 16 < length (labels_ending (rules b) (get_or ws s []))))
    ∷ (28, 512 < length ws)
    ∷ (16, room < length (tabulated b))
    ∷ []

-- Reduce: the table's, 16.
unfoldable pub reduce_sentences : List ℕ → ℕ → List Sentence
reduce_sentences t room = table_sentences t ++ ((16, room < length (reduced t)) ∷ [])

-- A payload from a state, one of n: 14, 15.
abbrev pub run_sentences : ℕ → ℕ → List ℕ → List Sentence
run_sentences n s payload = (14, ¬ (s < n)) ∷ (15, 65536 < length payload) ∷ []

-- Scan: the image's, 14, 15.
unfoldable pub scan_sentences : List ℕ → ℕ → List ℕ → List Sentence
scan_sentences b s payload = image_sentences b ++ run_sentences (image.states b) s payload

-- Walk: the table's, 14, 15.
unfoldable pub walk_sentences : List ℕ → ℕ → List ℕ → List Sentence
walk_sentences t s payload = table_sentences t ++ run_sentences (table.states t) s payload

-- A patch's shape is wrong: under 22 bytes, p out of range, a length that p and q don't give, a wrong length or distance back in the trailer, or a differing check word.
abbrev pub ShapeWrong : List ℕ → Type 0
ShapeWrong x =
    let p = patch.listed_states x in
    let q = patch.entries x in
    (length x < 22)
    ⊎ (OutOf 1 64 p
    ⊎ ((¬ (length x ≡ patch_length p q))
    ⊎ ((¬ (patch.whole_length x ≡ length x))
    ⊎ ((¬ (patch.distance_back x ≡ 4 * q + 12))
    ⊎ (¬ (patch.check x ≡ check_word_of (words (take (length x - 2) x))))))))

-- A listed state is not above the one before, or not below n.
abbrev pub StateWrong : List ℕ → ℕ → ℕ → Type 0
StateWrong x n i = ((j : ℕ) × (i ≡ suc j) × (¬ (patch.state_at_of x j < patch.state_at_of x i))) ⊎ (¬ (patch.state_at_of x i < n))

-- A patch against an image: the image's, 22, 23, 24, 8 to 13.
unfoldable pub patch_sentences : List ℕ → List ℕ → List Sentence
patch_sentences b x =
    let n = image.states b in
    let p = patch.listed_states x in
    let v = patched_view b x in
    image_sentences b
    ++ ((22, ShapeWrong x)
    ∷ (23, ¬ (patch.image_word x ≡ image.check b))
    ∷ (24, Some p (StateWrong x n))
    ∷ (8, ¬ (sum p (patch.count x) ≡ patch.entries x))
    ∷ view_sentences v (image.class_of b) (sum n v.count) (patch.depth x) (patch.worst x))

-- Apply: the patch's against the image, 16.
unfoldable pub apply_sentences : List ℕ → List ℕ → ℕ → List Sentence
apply_sentences b x room = patch_sentences b x ++ ((16, room < length (applied b x)) ∷ [])

-- The patched scan: the patch's against the image, 14, 15.
unfoldable pub patched_scan_sentences : List ℕ → List ℕ → ℕ → List ℕ → List Sentence
patched_scan_sentences b x s payload = patch_sentences b x ++ run_sentences (image.states b) s payload
