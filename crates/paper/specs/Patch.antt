-- The patch: where its numbers stand, the image with its records and entries, and on what grounds it is refused.
use Rattle.std.specs.Prelude.{Bool, false, ◌||◌, List, ◌∷◌, ◌++◌, ℕ, zero, suc, ◌+◌, ◌-◌, ◌*◌, ◌/◌, ltb, leb, eqb, length, take, drop}
use Rattle.std.proofs.Math.Option.{Option, none, some}
use Rattle.paper.specs.Below.{any, sum, differ, outside, when, first_of}
use Rattle.paper.specs.Words.{number16, number32, words, check_word_of}
use Rattle.paper.specs.Refusals.{Ground}
use Rattle.paper.specs.View.{View, look, view_grounds}
use Rattle.paper.specs.Image as image
use Rattle.paper.specs.Image.{default_from_of, image_grounds}
use Rattle.paper.specs.Results.{image_of_view}
use Rattle.paper.specs.Scan.{Run, run, begun}

module _ (x : List ℕ) where
  -- p, the number of states that the patch lists.
  abbrev pub listed_states : ℕ
  listed_states = number16 x 0

  -- The new depth.
  abbrev pub depth : ℕ
  depth = number16 x 2

  -- The new worst.
  abbrev pub worst : ℕ
  worst = number16 x 4

  -- q, the number of entries.
  abbrev pub entries : ℕ
  entries = number32 x 6

  -- The number of a listed state, the listed states counted from 0.
  unfoldable pub state_at_of : ℕ → ℕ
  state_at_of i = number16 x (10 + 2 * i)

  -- The place of the first entry: 4q + 12 before the patch's end.
  abbrev pub entries_at : ℕ
  entries_at = length x - (4 * entries + 12)

  -- The place of the first record: 4p before the first entry.
  abbrev pub records_at_of : ℕ
  records_at_of = entries_at - 4 * listed_states

  -- The default state in the record of a listed state, or none.
  unfoldable pub default : ℕ → Option ℕ
  default i = default_from_of (number16 x (records_at_of + 4 * i))

  -- The count of entries in the record of a listed state.
  unfoldable pub count : ℕ → ℕ
  count i = number16 x (records_at_of + 4 * i + 2)

  -- The place of an entry of a listed state: the entries stand by state.
  unfoldable pub entry_at : ℕ → ℕ → ℕ
  entry_at i j = entries_at + 4 * (sum i count + j)

  -- The entries of a listed state as a part of the patch.
  unfoldable pub entries_part_of : ℕ → List ℕ
  entries_part_of i = take (4 * count i) (drop (entry_at i 0) x)

  -- Where the patch lists a state, or nowhere.
  unfoldable pub listed_at : ℕ → Option ℕ
  listed_at s = first_of listed_states (λ i. when (eqb (state_at_of i) s) i)

  -- The trailer's distance back from the patch's end to the first entry.
  abbrev pub distance_back : ℕ
  distance_back = number32 x (length x - 12)

  -- The trailer's whole length.
  abbrev pub whole_length : ℕ
  whole_length = number32 x (length x - 8)

  -- The check word of the image that the patch fits.
  abbrev pub image_word : ℕ
  image_word = number16 x (length x - 4)

  -- The trailer's check word.
  abbrev pub check : ℕ
  check = number16 x (length x - 2)

-- The length that the counts give.
abbrev pub patch_length : ℕ → ℕ → ℕ
patch_length p q = 22 + 6 * p + 4 * q

module _ {ℓ} {A : Type ℓ} where
  -- What is taken from the patch where it lists the state, else from the image.
  abbrev pub from_either : Option ℕ → (ℕ → A) → A → A
  from_either none patch image = image
  from_either (some i) patch image = patch i

module _ (b x : List ℕ) where
  -- The image with the patch's records and entries as a view.
  abbrev pub patched_view : View
  patched_view =
      record {
        states = image.states b;
        classes = image.classes b;
        default = λ s. from_either (listed_at x s) (default x) (image.default b s);
        count = λ s. from_either (listed_at x s) (count x) (image.count b s);
        entry_class = λ s j. from_either (listed_at x s) (λ i. number16 x (entry_at x i j)) (number16 b (image.entry_at b s j));
        entry_next = λ s j. from_either (listed_at x s) (λ i. number16 x (entry_at x i j + 2)) (number16 b (image.entry_at b s j + 2));
      }

  -- The image with the patch applied: edition, start, classes and labels are the image's.
  unfoldable pub applied : List ℕ
  applied = image_of_view (image.edition b) patched_view (image.start b) (image.class_of b) (image.labels b)

-- A listed state is not above the one before; the first has none before it.
abbrev pub state_falls : List ℕ → ℕ → Bool
state_falls x zero = false
state_falls x (suc i) = leb (state_at_of x (suc i)) (state_at_of x i)

-- Ground 22: under 22 bytes, p out of range, a length that p and q don't give, a wrong length or distance back in the trailer, or a differing check word.
unfoldable pub shape_bad_of : List ℕ → Bool
shape_bad_of x =
    let p = listed_states x in
    let q = entries x in
    ltb (length x) 22
    || (outside 1 64 p
    || (differ (length x) (patch_length p q)
    || (differ (whole_length x) (length x)
    || (differ (distance_back x) (4 * q + 12)
    || differ (check x) (check_word_of (words (take (length x - 2) x)))))))

-- The grounds of a patch against an image, in the order of their tests: the image's, 22, 23, 24, 8 to 13. The counts of the patch's records sum to q.
unfoldable pub patch_grounds : List ℕ → List ℕ → List Ground
patch_grounds b x =
    let n = image.states b in
    let p = listed_states x in
    let v = patched_view b x in
    image_grounds b
    ++ ((22, shape_bad_of x)
    ∷ (23, differ (image_word x) (image.check b))
    ∷ (24, any p (λ i. state_falls x i || leb n (state_at_of x i)))
    ∷ (8, differ (sum p (count x)) (entries x))
    ∷ view_grounds v (image.class_of b) (sum n v.count) (depth x) (worst x))

-- The patched scan from a state: the scan over the image with the patch's records and entries.
unfoldable pub patched_scan_of : List ℕ → List ℕ → ℕ → List ℕ → ℕ → Run
patched_scan_of b x s payload room = run (look (patched_view b x)) (image.class_of b) (image.labels b) (room / 6) payload (begun s)
