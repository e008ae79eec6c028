-- Results are bytes: the image of a table and the table of an image, where these are bytes.
use mathlib.Core.Option.{Option}
use mathlib.Core.List.{List, [], ◌∷◌, ◌++◌}
use Prim.Native.Nat.{ℕ, zero, suc, ◌+◌, ◌*◌, ◌/◌, ◌%◌, ◌<◌}
use native.Mathlib.Omega.{arith}
use lib.ListN.{length}
use Rattle.paper.specs.Below.{each, list}
use Rattle.paper.specs.Words.{Bytes, bytes16, all16, bytes32}
use Rattle.paper.specs.Labels.{Edition, one, two, first_word}
use Rattle.paper.specs.Table as table
use Rattle.paper.specs.View.{View}
use Rattle.paper.specs.Image as image
use Rattle.paper.specs.Image.{image_length_of, image_view}
use Rattle.paper.specs.Results.{default_number_of, label_number_of, label_bytes_of, record_bytes, entry_bytes, front, trailer, parts, image_of_view, table_view, image_of, moved, table_from, table_of}
use Rattle.paper.specs.Patch.{patched_view, applied}

-- A part of bytes only.
record Part (b : List ℕ) : Type 0 where
  are : Bytes b

none_part : Part []
none_part = record { are = λ i. omega arith }

-- One byte more in front.
byte_part : {b : List ℕ} (x : ℕ) → x < 256 → Part b → Part (x ∷ b)
byte_part {b} x h P = record { are = go }
  where
    go : Bytes (x ∷ b)
    go zero = h
    go (suc i) = P.are i

-- Parts behind one another.
then_part : {a b : List ℕ} → Part a → Part b → Part (a ++ b)
then_part {a} {b} P Q = go a P
  where
    go : (a : List ℕ) → Part a → Part (a ++ b)
    go [] P = Q
    go (x ∷ a) P = byte_part x (P.are 0) (go a (record { are = λ i. P.are (suc i) }))

each_part : (n : ℕ) {f : ℕ → List ℕ} → ((i : ℕ) → Part (f i)) → Part (each n f)
each_part zero P = none_part
each_part (suc n) P = then_part (each_part n P) (P n)

-- Numbers of 16 and 32 bits, and a row of bytes.
part16 : (x : ℕ) → Part (bytes16 x)
unfolding bytes16
part16 x = byte_part (x % 256) (omega arith) (byte_part (x / 256 % 256) (omega arith) none_part)

part32 : (x : ℕ) → Part (bytes32 x)
unfolding bytes32
part32 x = then_part (part16 (x % 65536)) (part16 (x / 65536))

list_part : (n : ℕ) (f : ℕ → ℕ) → ((i : ℕ) → f i < 256) → Part (list n f)
list_part n f h = each_part n (λ i. byte_part (f i) (h i) none_part)

-- Labels, in both editions.
all_part : (ls : List ℕ) → Part (all16 ls)
all_part [] = none_part
all_part (l ∷ ls) = then_part (part16 l) (all_part ls)

labels_part : (e : Edition) (n : ℕ) (labels : ℕ → List ℕ) → Part (label_bytes_of e n labels)
unfolding label_bytes_of
labels_part one n labels = each_part n (λ s. part16 (label_number_of (labels s)))
labels_part two n labels = then_part (each_part n (λ s. part16 (length (labels s)))) (each_part n (λ s. all_part (labels s)))

-- A table whose classes are bytes.
table_part : (e : Edition) (n k start : ℕ) (class_of : ℕ → ℕ) (labels : ℕ → List ℕ) (next : ℕ → ℕ → ℕ) → ((x : ℕ) → class_of x < 256) → Part (table_from e n k start class_of labels next)
unfolding table_from
table_part e n k start class_of labels next h =
    then_part (part16 (first_word e n)) (then_part (part16 k) (then_part (part16 start) (then_part (list_part 256 class_of h)
    (then_part (labels_part e n labels) (each_part n (λ s. each_part k (λ c. part16 (next s c))))))))

-- A table made of any numbers is bytes, where the classes are.
pub table_from_bytes : (e : Edition) (n k start : ℕ) (class_of : ℕ → ℕ) (labels : ℕ → List ℕ) (next : ℕ → ℕ → ℕ) → ((x : ℕ) → class_of x < 256) → Bytes (table_from e n k start class_of labels next)
table_from_bytes e n k start class_of labels next h = (table_part e n k start class_of labels next h).are

-- The parts of an image whose classes are bytes.
module _ (e : Edition) (v : View) (start : ℕ) (class_of : ℕ → ℕ) (labels : ℕ → List ℕ) (h : (x : ℕ) → class_of x < 256) where
  front_part : (n k start depth m : ℕ) → Part (front e n k start depth m)
  unfolding front
  front_part n k start depth m = then_part (part16 (first_word e n)) (then_part (part16 k) (then_part (part16 start) (then_part (part16 depth) (part32 m))))

  trailer_part : (n m behind worst : ℕ) → Part (trailer n m behind worst)
  unfolding trailer
  trailer_part n m behind worst = then_part (part32 (4 * m + 12)) (then_part (part32 (image_length_of n m behind)) (part16 worst))

  record_part : (s : ℕ) → Part (record_bytes v s)
  unfolding record_bytes
  record_part s = then_part (part16 (default_number_of (v.default s))) (part16 (v.count s))

  entries_part : (s : ℕ) → Part (entry_bytes v s)
  unfolding entry_bytes
  entries_part s = each_part (v.count s) (λ j. then_part (part16 (v.entry_class s j)) (part16 (v.entry_next s j)))

  parts_part : {ending : List ℕ} → Part ending → Part (parts e v start class_of labels ending)
  unfolding parts
  parts_part P =
      then_part (front_part _ _ _ _ _) (then_part (list_part 256 class_of h) (then_part (labels_part e v.states labels)
      (then_part (each_part v.states record_part) (then_part (each_part v.states entries_part) P))))

  image_part : Part (image_of_view e v start class_of labels)
  unfolding image_of_view
  image_part = parts_part (then_part (trailer_part _ _ _ _) (part16 _))

-- The image of a table is bytes.
pub image_of_bytes : (t : List ℕ) (default : ℕ → Option ℕ) → Bytes t → Bytes (image_of t default)
unfolding image_of
image_of_bytes t default B = (image_part (table.edition t) (table_view t default) (table.start t) (table.class_of t) (table.labels t) (λ x. B (6 + x))).are

-- The table of an image is bytes.
pub table_of_bytes : (b : List ℕ) → Bytes b → Bytes (table_of b)
unfolding table_of
table_of_bytes b B = (table_part (image.edition b) (image.states b) (image.classes b) (image.start b) (image.class_of b) (image.labels b) _ (λ x. B (12 + x))).are

-- An image in another edition is bytes.
pub moved_bytes : (e : Edition) (b : List ℕ) → Bytes b → Bytes (moved e b)
unfolding moved
moved_bytes e b B = (image_part e (image_view b) (image.start b) (image.class_of b) (image.labels b) (λ x. B (12 + x))).are

-- An image with a patch applied is bytes.
pub applied_bytes : (b x : List ℕ) → Bytes b → Bytes (applied b x)
unfolding applied
applied_bytes b x B = (image_part (image.edition b) (patched_view b x) (image.start b) (image.class_of b) (image.labels b) (λ x. B (12 + x))).are
