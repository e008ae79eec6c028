-- The starred cases and those of the requests are right, by computation, and each of them by itself.
use mathlib.Core.Path.{◌≡◌, refl, sym}
use mathlib.Core.Bool.{Bool, true, false, true≢false}
use mathlib.Core.List.{List, [], ◌∷◌}
use Prim.Native.Nat.{ℕ, zero, suc}
use lib.Dec.{eqb}
use borrow.Author.Tests.{eqb-true}
use Rattle.paper.specs.Below.{same}
use Rattle.paper.specs.Words.{number16, number32, bytes16, bytes32, ◌⊕◌, check_word_of}
use Rattle.paper.specs.Labels.{label_count, label, labels_from, labels_behind}
use Rattle.paper.specs.Table.{labels, next, table_grounds}
use Rattle.paper.specs.View.{stored, depth_of, worst_hops, view_grounds}
use Rattle.paper.specs.Image as image
use Rattle.paper.specs.Image.{image_grounds, first_loader_grounds}
use Rattle.paper.specs.Results.{label_bytes_of, labels_held_of, record_bytes, entry_bytes, front, trailer, parts, image_of_view, stored_entries, image_of, moved, table_from, table_of}
use Rattle.paper.specs.Forest.{weight, singles, end_near, joined, d, longest, joined_longest, added_or_dropped, pairs, neighbours, is_root_of, root, points_to, forest, toward_root}
use Rattle.paper.specs.FallBack.{levels, toward_start}
use Rattle.paper.specs.Defaults.{defaults}
use Rattle.paper.specs.Scan.{scan_of, walk_of}
use Rattle.paper.specs.Operations.{judge_table_of, judge_image_of, compacted, compact_grounds, compact, write_grounds, write, expand_grounds, expand, rewrite_grounds, rewrite, strings_grounds, strings, reduce_grounds, reduce, forward_grounds, forward, back_grounds, back, scan_grounds, scan, walk_grounds, walk, judge_patch_of, apply_grounds, apply, patched_scan_grounds, patched_scan}
use Rattle.paper.specs.Rewrite.{rewritten}
use Rattle.paper.specs.Strings as list
use Rattle.paper.specs.Strings.{list_bad_of, list_labels_bad, rules, names, spare, classes, class_of, byte_of, too_many_labels, table_of_rules, tabulated}
use Rattle.paper.specs.Reduce.{reduced}
use Rattle.paper.specs.Patch as patch
use Rattle.paper.specs.Patch.{listed_at, shape_bad_of, patch_grounds, applied, patched_scan_of}
use Rattle.paper.specs.Text.{decimal, refused_line, too_long_line}
use Rattle.paper.specs.Programs.{bounds_header, bounds_line, bounds_text_of, served_lines, served_text_of}
use Rattle.paper.specs.Cases.{built, Case, right, room, starred, requested, three}
use Rattle.paper.proofs.Below.{and_true}

-- Something that there is where a test passes.
record Passed : Type 0 where

-- The test passes. A test that fails is computed once for this, and four times where it is compared with `true`: so an edit of a definition is refused sooner.
abbrev Passes : Bool → Type 0
Passes true = Passed
Passes false = ⊥

-- A test that passes is true.
passes : (b : Bool) → Passes b → b ≡ true
passes true p = refl
passes false p = absurd p

-- Every starred case is right, and the table of three states compacted with any D has 322 bytes and no defaults.
pub cases : (right starred ≡ true) × ((D : ℕ) → built (compact three 0 D (room 322)) ≡ 0 ∷ 322 ∷ 6 ∷ 0 ∷ 0 ∷ 65535 ∷ 65535 ∷ 65535 ∷ [])
unfolding number16 number32 bytes16 bytes32 ◌⊕◌ check_word_of label_count label labels_from labels_behind labels next table_grounds stored depth_of worst_hops view_grounds image.labels image.default image.count image.entry_at image_grounds label_bytes_of labels_held_of record_bytes entry_bytes front trailer parts image_of_view stored_entries image_of table_of weight singles end_near joined d longest joined_longest added_or_dropped pairs neighbours is_root_of root points_to forest toward_root levels toward_start defaults scan_of judge_table_of judge_image_of compacted compact_grounds compact write_grounds write expand_grounds expand scan_grounds scan
cases = (refl {a = true}, λ D. refl {a = 0 ∷ 322 ∷ 6 ∷ 0 ∷ 0 ∷ 65535 ∷ 65535 ∷ 65535 ∷ []})

-- Every case of the requests is right.
pub requests : right requested ≡ true
unfolding number16 number32 bytes16 bytes32 ◌⊕◌ check_word_of label_count label labels_from labels_behind labels next table_grounds stored depth_of worst_hops view_grounds image.labels image.default image.count image.entry_at image_grounds first_loader_grounds label_bytes_of labels_held_of record_bytes entry_bytes front trailer parts image_of_view stored_entries image_of moved table_from table_of weight singles end_near joined d longest joined_longest added_or_dropped pairs neighbours is_root_of root points_to forest toward_root levels toward_start defaults scan_of judge_table_of judge_image_of compacted compact_grounds compact write_grounds write expand_grounds expand rewritten rewrite_grounds rewrite list.label list.size list.string list_bad_of list_labels_bad rules names spare classes class_of byte_of too_many_labels table_of_rules tabulated strings_grounds strings reduced reduce_grounds reduce forward_grounds forward back_grounds back scan_grounds scan walk_of walk_grounds walk patch.state_at_of patch.default patch.count patch.entry_at listed_at shape_bad_of patch_grounds applied patched_scan_of judge_patch_of apply_grounds apply patched_scan_grounds patched_scan decimal refused_line too_long_line bounds_header bounds_line bounds_text_of served_lines served_text_of
requests = passes (right requested) (record {})

-- Lists that are the same are equal.
same_equal : (xs ys : List ℕ) → same xs ys ≡ true → xs ≡ ys
same_equal [] [] e = refl
same_equal [] (y ∷ ys) e = absurd (true≢false (sym e))
same_equal (x ∷ xs) [] e = absurd (true≢false (sym e))
same_equal (x ∷ xs) (y ∷ ys) e =
    let (h, r) = and_true (eqb x y) (same xs ys) e in
    rw (eqb-true x y h, same_equal xs ys r) refl

-- A case of a table, counted from 0; behind its end a case of nothing.
abbrev pub pick : ℕ → List Case → Case
pick i [] = ([], [])
pick zero (c ∷ cs) = c
pick (suc i) (c ∷ cs) = pick i cs

-- Each case of a table that is right is right.
pub pick_right : (i : ℕ) (cs : List Case) → right cs ≡ true → (pick i cs).0 ≡ (pick i cs).1
pick_right i [] e = refl
pick_right zero (c ∷ cs) e = same_equal c.0 c.1 (and_true (same c.0 c.1) (right cs) e).0
pick_right (suc i) (c ∷ cs) e = pick_right i cs (and_true (same c.0 c.1) (right cs) e).1
