-- Single facts out of the starred table, and some more that the prover computes: what the wrong programs of `ShutOut` run against.
use mathlib.Core.Path.{◌≡◌, refl}
use mathlib.Core.Bool.{Bool, true, ◌&&◌}
use mathlib.Core.List.{List, [], ◌∷◌}
use Prim.Native.Nat.{ℕ, zero, suc}
use native.Mathlib.Omega.{arith}
use lib.Dec.{ltb}
use lib.ListN.{length}
use borrow.Author.Tests.{ltb-true}
use Rattle.paper.specs.Words.{byte_at, Bytes, all16, number16, number32, bytes16, bytes32, ◌⊕◌, check_word_of}
use Rattle.paper.specs.Labels.{two, label_count, label, labels_from, labels_behind}
use Rattle.paper.specs.Table.{edition, labels, next, table_grounds}
use Rattle.paper.specs.View.{stored, depth_of, worst_hops, view_grounds}
use Rattle.paper.specs.Image as image
use Rattle.paper.specs.Image.{image_grounds}
use Rattle.paper.specs.Results.{label_bytes_of, labels_held_of, record_bytes, entry_bytes, front, trailer, parts, image_of_view, stored_entries, image_of, moved, table_from, table_of}
use Rattle.paper.specs.Forest.{weight, singles, end_near, joined, d, longest, joined_longest, added_or_dropped, pairs, neighbours, is_root_of, root, points_to, forest, toward_root}
use Rattle.paper.specs.FallBack.{levels, toward_start}
use Rattle.paper.specs.Defaults.{defaults}
use Rattle.paper.specs.Scan.{scan_of, walk_of}
use Rattle.paper.specs.Operations.{judge_table_of, judge_image_of, Built, listed, compacted, compact_grounds, compact, write_grounds, write, expand_grounds, expand, rewrite_grounds, rewrite, forward_grounds, forward, back_grounds, back, scan_grounds, scan, walk_grounds, walk}
use Rattle.paper.specs.Cases.{T, T2, T_two, three, three3, twice, aabbb, room, Case, right, starred, requested}
use Rattle.paper.specs.Rewrite.{rewritten}
use Rattle.paper.proofs.Below.{and_true}
use Rattle.paper.proofs.Cases.{pick_right, cases, requests}
use Rattle.trips.proofs.ResultBytes.{image_of_bytes}

-- The first numbers of equal lists are equal.
head : {x a : ℕ} {r s : List ℕ} → x ∷ r ≡ a ∷ s → x ≡ a
head {x} {a} e = let z : x ≡ a = cc in z

-- So are the first two.
heads : {x y a b : ℕ} {r s : List ℕ} → x ∷ y ∷ r ≡ a ∷ b ∷ s → (x ≡ a) × (y ≡ b)
heads {x} {y} {a} {b} e = (head e, let z : y ≡ b = cc in z)

-- So are the lists behind the first two.
behind : {x y a b : ℕ} {r s : List ℕ} → x ∷ y ∷ r ≡ a ∷ b ∷ s → r ≡ s
behind {r = r} {s = s} e = let z : r ≡ s = cc in z

-- The operation accepted, and its result has l bytes.
abbrev pub Accepts : Built → ℕ → Type 0
Accepts o l = (o.number ≡ 0) × (o.result_length ≡ l)

-- T is accepted.
pub judge_T : judge_table_of T ≡ 0
judge_T = (heads (pick_right 0 starred cases.0)).1

-- Every element of a list is a byte, as a test.
unfoldable pub all_bytes : List ℕ → Bool
all_bytes [] = true
all_bytes (x ∷ xs) = ltb x 256 && all_bytes xs

-- What passes it are bytes.
pub bytes_tested : (xs : List ℕ) → all_bytes xs ≡ true → Bytes xs
unfolding all_bytes
bytes_tested [] e i = omega arith
bytes_tested (x ∷ xs) e zero = ltb-true x 256 (and_true (ltb x 256) (all_bytes xs) e).0
bytes_tested (x ∷ xs) e (suc i) = bytes_tested xs (and_true (ltb x 256) (all_bytes xs) e).1 i

-- A room is of bytes.
pub bytes_room : (n : ℕ) → Bytes (room n)
bytes_room zero i = omega arith
bytes_room (suc n) zero = omega arith
bytes_room (suc n) (suc i) = bytes_room n i

-- Compact of T with D 0.
pub compact_zero : Accepts (compact T 0 0 (room 352)) 352
compact_zero = heads (pick_right 2 starred cases.0)

-- Compact of T with D 2.
pub compact_two : Accepts (compact T 0 2 (room 324)) 324
compact_two = heads (pick_right 4 starred cases.0)

-- Compact of the table of three states with D 2.
pub compact-three : Accepts (compact three 0 2 (room 322)) 322
compact-three = heads (cases.1 2)

-- Table T in edition 2 compacted with D 2.
pub compact-T_two : Accepts (compact T_two 0 2 (room 330)) 330
compact-T_two = heads (pick_right 25 requested requests)

pub edition-T_two : edition T_two ≡ two
unfolding number16 bytes16
edition-T_two = refl

-- The defaults of T with 0, 1 and 2 to 3, and the list of four states without one.
abbrev pub to_three_of : List ℕ
to_three_of = all16 (3 ∷ 3 ∷ 3 ∷ 65535 ∷ [])

abbrev pub roots_only_of : List ℕ
roots_only_of = all16 (65535 ∷ 65535 ∷ 65535 ∷ 65535 ∷ [])

-- Write of T.
pub write-T : Accepts (write T to_three_of (room 324)) 324
write-T = heads (pick_right 9 starred cases.0)

-- The scan of "aabbb" is accepted and takes five bytes.
pub accepts_aabbb : ((scan T2 0 aabbb (room 12)).number ≡ 0) × ((scan T2 0 aabbb (room 12)).taken ≡ 5)
accepts_aabbb = heads (pick_right 6 starred cases.0)

-- The scan of "aabbb" ends in state 0, and takes 2 hops.
pub state_aabbb : (scan T2 0 aabbb (room 12)).state ≡ 0
state_aabbb = (heads (behind (pick_right 6 starred cases.0))).0

pub hops_aabbb : (scan T2 0 aabbb (room 12)).hops ≡ 2
hops_aabbb = head (behind (behind (pick_right 6 starred cases.0)))

-- The walk of "aabbb" is accepted, takes five bytes and ends in state 0.
pub walk-aabbb : ((walk T 0 aabbb (room 12)).number ≡ 0) × ((walk T 0 aabbb (room 12)).taken ≡ 5)
walk-aabbb = heads (pick_right 21 requested requests)

pub walk_state : (walk T 0 aabbb (room 12)).state ≡ 0
walk_state = (heads (behind (pick_right 21 requested requests))).0

-- The payload "aaaaa".
abbrev pub aaaaa : List ℕ
aaaaa = 97 ∷ 97 ∷ 97 ∷ 97 ∷ 97 ∷ []

-- The tables, both lists and both payloads are of bytes.
pub bytes_T : Bytes T
unfolding bytes16 all_bytes
bytes_T = bytes_tested T refl

pub bytes_T_two : Bytes T_two
unfolding bytes16 all_bytes
bytes_T_two = bytes_tested T_two refl

pub bytes_three : Bytes three
unfolding bytes16 all_bytes
bytes_three = bytes_tested three refl

pub bytes_twice : Bytes twice
unfolding bytes16 all_bytes
bytes_twice = bytes_tested twice refl

pub bytes_lists : Bytes to_three_of × Bytes roots_only_of
unfolding bytes16 all_bytes
bytes_lists = (bytes_tested to_three_of refl, bytes_tested roots_only_of refl)

pub bytes_payloads : Bytes aabbb × Bytes aaaaa
unfolding all_bytes
bytes_payloads = (bytes_tested aabbb refl, bytes_tested aaaaa refl)

-- So is the payload "a".
pub bytes_a : Bytes (97 ∷ [])
unfolding all_bytes
bytes_a = bytes_tested (97 ∷ []) refl

-- So is the image of T with D 2.
pub bytes_T2 : Bytes T2
unfolding compacted
bytes_T2 = image_of_bytes T (defaults T 0 2) bytes_T

-- So is that image in edition 2.
pub bytes_moved : Bytes (moved two T2)
unfolding all_bytes number16 number32 bytes16 bytes32 ◌⊕◌ check_word_of label_count label labels_from labels_behind labels next stored depth_of worst_hops image.labels image.default image.count image.entry_at label_bytes_of labels_held_of record_bytes entry_bytes front trailer parts image_of_view stored_entries image_of moved weight singles end_near joined d longest joined_longest added_or_dropped pairs neighbours is_root_of root points_to forest toward_root defaults compacted
bytes_moved = bytes_tested (moved two T2) refl

-- Cases that the paper does not star: the image of T with D 2 is accepted and expands into T, the rooms are filled, "aaaaa" is scanned and walked, and the image is moved there and back.
abbrev more : List Case
more =
    (judge_image_of T2 ∷ (expand T2 (room 294)).number ∷ [], 0 ∷ 0 ∷ [])
    ∷ (byte_at (compact T 0 2 (room 324)).room 0 ∷ byte_at (write T to_three_of (room 324)).room 0 ∷ [], 4 ∷ 4 ∷ [])
    ∷ (byte_at (expand T2 (room 294)).room 0 ∷ (expand T2 (room 294)).result_length ∷ [], 4 ∷ 294 ∷ [])
    ∷ ((scan T2 0 aaaaa (room 12)).state ∷ (scan T2 0 aaaaa (room 12)).hops ∷ [], 1 ∷ 4 ∷ [])
    ∷ ((walk T 0 aaaaa (room 12)).state ∷ [], 1 ∷ [])
    ∷ ((forward T2 (room 328)).number ∷ byte_at (forward T2 (room 328)).room 0 ∷ [], 0 ∷ 4 ∷ [])
    ∷ ((back (moved two T2) (room 324)).number ∷ byte_at (back (moved two T2) (room 324)).room 0 ∷ [], 0 ∷ 4 ∷ [])
    ∷ []

-- They are right, by computation.
more_right : right more ≡ true
unfolding number16 number32 bytes16 bytes32 ◌⊕◌ check_word_of label_count label labels_from labels_behind labels next table_grounds stored depth_of worst_hops view_grounds image.labels image.default image.count image.entry_at image_grounds label_bytes_of labels_held_of record_bytes entry_bytes front trailer parts image_of_view stored_entries image_of moved table_from table_of weight singles end_near joined d longest joined_longest added_or_dropped pairs neighbours is_root_of root points_to forest toward_root levels toward_start defaults scan_of judge_table_of judge_image_of compacted compact_grounds compact write_grounds write expand_grounds expand forward_grounds forward back_grounds back scan_grounds scan walk_of walk_grounds walk
more_right = refl

-- The image of T is accepted and can be expanded.
pub expand-T : (judge_image_of T2 ≡ 0) × ((expand T2 (room 294)).number ≡ 0)
expand-T = heads (pick_right 0 more more_right)

-- The rooms of compact, write and expand then begin with n.
pub filled_rooms : (byte_at (compact T 0 2 (room 324)).room 0 ≡ 4) × (byte_at (write T to_three_of (room 324)).room 0 ≡ 4) × (byte_at (expand T2 (room 294)).room 0 ≡ 4)
filled_rooms =
    let (c, w) = heads (pick_right 1 more more_right) in
    (c, w, (heads (pick_right 2 more more_right)).0)

-- The scan of "aaaaa" ends in state 1 after 4 hops.
pub scan_aaaaa : ((scan T2 0 aaaaa (room 12)).state ≡ 1) × ((scan T2 0 aaaaa (room 12)).hops ≡ 4)
scan_aaaaa = heads (pick_right 3 more more_right)

-- The walk of "aaaaa" ends in state 1.
pub walk_aaaaa : (walk T 0 aaaaa (room 12)).state ≡ 1
walk_aaaaa = head (pick_right 4 more more_right)

-- The image of T is moved forward, and back again; the rooms then begin with the first byte of n.
pub forward-T : ((forward T2 (room 328)).number ≡ 0) × (byte_at (forward T2 (room 328)).room 0 ≡ 4)
forward-T = heads (pick_right 5 more more_right)

pub back-T : ((back (moved two T2) (room 324)).number ≡ 0) × (byte_at (back (moved two T2) (room 324)).room 0 ≡ 4)
back-T = heads (pick_right 6 more more_right)

-- Write of T without defaults, and the image of three states, which carries defaults not worth their hops: it has 314 bytes and is rewritten into 322, from the first of them.
abbrev rewriting : List Case
rewriting =
    ((write T roots_only_of (room 352)).number ∷ (write T roots_only_of (room 352)).result_length ∷ [], 0 ∷ 352 ∷ [])
    ∷ ((rewrite three3 (room 322)).number ∷ (rewrite three3 (room 322)).result_length ∷ [], 0 ∷ 322 ∷ [])
    ∷ (byte_at (rewrite three3 (room 322)).room 0 ∷ length three3 ∷ [], 3 ∷ 314 ∷ []) ∷ []

-- They are right, by computation.
rewriting_right : right rewriting ≡ true
unfolding number16 number32 bytes16 bytes32 ◌⊕◌ check_word_of label_count label labels_from labels_behind labels next table_grounds stored depth_of worst_hops view_grounds image.labels image.default image.count image.entry_at image_grounds label_bytes_of labels_held_of record_bytes entry_bytes front trailer parts image_of_view stored_entries image_of table_from table_of judge_image_of write_grounds write rewritten rewrite_grounds rewrite
rewriting_right = refl

-- Write of T without defaults.
pub write_roots : Accepts (write T roots_only_of (room 352)) 352
write_roots = heads (pick_right 0 rewriting rewriting_right)

-- Rewrite of the image of three states.
pub rewrite-three : Accepts (rewrite three3 (room 322)) 322
rewrite-three = heads (pick_right 1 rewriting rewriting_right)

-- Its room then begins with n, and the image was shorter.
pub rewrite-filled : (byte_at (rewrite three3 (room 322)).room 0 ≡ 3) × (length three3 ≡ 314)
rewrite-filled = heads (pick_right 2 rewriting rewriting_right)

-- The image of three states is of bytes.
pub bytes_three3 : Bytes three3
bytes_three3 = image_of_bytes three (listed (all16 (65535 ∷ 0 ∷ 1 ∷ []))) bytes_three
