-- The definitions compute: a table of twelve states is compacted by computation, and the numbers are those of an independent implementation of the paper.
use mathlib.Core.Path.{◌≡◌, refl}
use mathlib.Core.Bool.{true, ◌&&◌}
use mathlib.Core.List.{List, [], ◌∷◌, ◌++◌}
use Prim.Native.Nat.{ℕ}
use lib.ListN.{replicate, take}
use Rattle.paper.specs.Below.{same}
use Rattle.paper.specs.Words.{number16, number32, bytes16, all16, bytes32, ◌⊕◌, check_word_of}
use Rattle.paper.specs.Labels.{label_count, label, labels_from, labels_behind}
use Rattle.paper.specs.Table.{labels, next, table_grounds}
use Rattle.paper.specs.View.{stored, depth_of, worst_hops, view_grounds}
use Rattle.paper.specs.Image as image
use Rattle.paper.specs.Image.{check, image_grounds}
use Rattle.paper.specs.Results.{label_bytes_of, labels_held_of, record_bytes, entry_bytes, front, trailer, parts, image_of_view, stored_entries, image_of, table_of}
use Rattle.paper.specs.Forest.{weight, singles, end_near, joined, d, longest, joined_longest, added_or_dropped, pairs, neighbours, is_root_of, root, points_to, forest, toward_root}
use Rattle.paper.specs.FallBack.{levels, toward_start}
use Rattle.paper.specs.Defaults.{defaults}
use Rattle.paper.specs.Operations.{Built, compacted, compact_grounds, compact}
use Rattle.paper.specs.Cases.{built, room}

-- Twelve states and four classes: 'a' is class 1, 'b' class 2, 'c' class 3, every other byte 0; every third state has a label.
abbrev twelve : List ℕ
twelve =
    all16 (12 ∷ 4 ∷ 5 ∷ []) ++ (replicate 97 0 ++ (1 ∷ 2 ∷ 3 ∷ []) ++ replicate 156 0)
    ++ all16 (1 ∷ 0 ∷ 0 ∷ 4 ∷ 0 ∷ 0 ∷ 7 ∷ 0 ∷ 0 ∷ 10 ∷ 0 ∷ 0 ∷ [])
    ++ all16 (1 ∷ 0 ∷ 4 ∷ 4 ∷ []) ++ all16 (1 ∷ 2 ∷ 3 ∷ 4 ∷ []) ++ all16 (7 ∷ 2 ∷ 0 ∷ 4 ∷ [])
    ++ all16 (1 ∷ 7 ∷ 10 ∷ 1 ∷ []) ++ all16 (1 ∷ 2 ∷ 3 ∷ 4 ∷ []) ++ all16 (1 ∷ 2 ∷ 3 ∷ 4 ∷ [])
    ++ all16 (1 ∷ 2 ∷ 3 ∷ 4 ∷ []) ++ all16 (1 ∷ 2 ∷ 10 ∷ 4 ∷ []) ++ all16 (1 ∷ 2 ∷ 3 ∷ 4 ∷ [])
    ++ all16 (4 ∷ 2 ∷ 3 ∷ 4 ∷ []) ++ all16 (1 ∷ 2 ∷ 8 ∷ 4 ∷ []) ++ all16 (5 ∷ 2 ∷ 3 ∷ 4 ∷ [])

-- The check word of the image that was built, then all its numbers.
abbrev checked : Built → List ℕ
checked o = check (take o.result_length o.room) ∷ built o

-- With D 1 there are five pairs, with D 3 a tree of depth 2.
pub twelve_compacts : same (checked (compact twelve 0 1 (room 480)))
    (63602 ∷ 0 ∷ 480 ∷ 32 ∷ 1 ∷ 1 ∷ 65535 ∷ 65535 ∷ 65535 ∷ 65535 ∷ 1 ∷ 65535 ∷ 5 ∷ 65535 ∷ 7 ∷ 65535 ∷ 0 ∷ 9 ∷ [])
    && same (checked (compact twelve 0 3 (room 408)))
    (63866 ∷ 0 ∷ 408 ∷ 14 ∷ 2 ∷ 2 ∷ 1 ∷ 65535 ∷ 1 ∷ 7 ∷ 1 ∷ 1 ∷ 1 ∷ 1 ∷ 1 ∷ 1 ∷ 1 ∷ 1 ∷ []) ≡ true
unfolding number16 number32 bytes16 bytes32 ◌⊕◌ check_word_of label_count label labels_from labels_behind labels next table_grounds stored depth_of worst_hops view_grounds image.labels image.default image.count image.entry_at image_grounds label_bytes_of labels_held_of record_bytes entry_bytes front trailer parts image_of_view stored_entries image_of table_of weight singles end_near joined d longest joined_longest added_or_dropped pairs neighbours is_root_of root points_to forest toward_root levels toward_start defaults compacted compact_grounds compact
twelve_compacts = refl {a = true}
