-- A row of the sample: a table, what an independent implementation of the paper made of it, and the test that the definitions compute the same.
use Rattle.std.specs.Prelude.{Bool, true, ◌&&◌, List, [], ◌∷◌, ◌++◌, map, ℕ, zero, suc, ◌-◌, ◌%◌, length, get_or, take, drop, set, replicate}
use Rattle.std.proofs.Math.Dec.{eqb}
use Rattle.paper.specs.Below.{same}
use Rattle.paper.specs.Words.{number16, number32, bytes16, all16, bytes32, ◌⊕◌, check_word_of}
use Rattle.paper.specs.Labels.{label_count, label, labels_from, labels_behind}
use Rattle.paper.specs.Table.{labels, next, table_grounds}
use Rattle.paper.specs.View.{stored, depth_of, worst_hops, view_grounds}
use Rattle.paper.specs.Image as image
use Rattle.paper.specs.Image.{image_grounds}
use Rattle.paper.specs.Results.{label_bytes_of, labels_held_of, record_bytes, entry_bytes, front, trailer, parts, image_of_view, stored_entries, image_of, table_from, table_of}
use Rattle.paper.specs.Forest.{weight, singles, end_near, joined, d, longest, joined_longest, added_or_dropped, pairs, neighbours, is_root_of, root, points_to, forest, toward_root}
use Rattle.paper.specs.FallBack.{levels, toward_start}
use Rattle.paper.specs.Defaults.{defaults}
use Rattle.paper.specs.Scan.{scan_of}
use Rattle.paper.specs.Operations.{judge_table_of, judge_image_of, compacted, Built, compact_grounds, compact, write_grounds, write, expand_grounds, expand, Scanned, scan_grounds, scan}
use Rattle.paper.specs.Cases.{scanned}

-- What is lent: a thing as it is, or of so many bytes, with zeros behind it or cut, and with other bytes at some places.
pub data Lent : Type 0 where
  whole : Lent
  damaged : ℕ → List (ℕ × ℕ) → Lent

-- What was written: nothing, the row's table, one of the row's images, or these words.
pub data Written : Type 0 where
  nothing : Written
  the_table : Lent → Written
  the_image : ℕ → Written
  these : List ℕ → Written

-- A case: what is lent beside the row's table or one of its images, the length of the room, the numbers answered, and what was written.
pub data Case : Type 0 where
  -- An order and a path bound.
  compacts : ℕ → ℕ → ℕ → List ℕ → Written → Case
  -- The words of a list of defaults, and its length in bytes.
  writes : List ℕ → ℕ → ℕ → List ℕ → Written → Case
  -- One of the row's images; there is no room, and one number is answered.
  judges : ℕ → Lent → ℕ → Case
  -- One of the row's images.
  expands : ℕ → Lent → ℕ → List ℕ → Written → Case
  -- One of the row's images, a state and a payload.
  scans : ℕ → Lent → ℕ → List ℕ → ℕ → List ℕ → Written → Case

-- A row: a table, and the images and answers of the independent implementation.
pub record Row : Type 0 where
  -- The classes of the 256 bytes as runs: how many bytes in a row, and their class.
  pub runs : List (ℕ × ℕ)
  -- The words of the table before and behind the classes: n, k, start, the labels, the rows.
  pub table : List ℕ
  -- How the table is lent.
  pub lent : Lent
  -- The number that judging the table answered.
  pub judged : ℕ
  -- The words of each image before and behind the classes.
  pub images : List (List ℕ)
  -- The cases.
  pub cases : List Case

-- The bytes of runs.
abbrev pub spread : List (ℕ × ℕ) → List ℕ
spread [] = []
spread (r ∷ rs) = replicate r.0 r.1 ++ spread rs

-- Words as bytes, with the classes behind the first so many words.
abbrev pub around : ℕ → List ℕ → List ℕ → List ℕ
around before classes ws = all16 (take before ws) ++ (classes ++ all16 (drop before ws))

-- Other bytes at some places.
abbrev pub changed : List (ℕ × ℕ) → List ℕ → List ℕ
changed [] b = b
changed (c ∷ cs) b = changed cs (set b c.0 c.1)

-- The bytes that are lent.
abbrev pub lent_bytes : Lent → List ℕ → List ℕ
lent_bytes whole b = b
lent_bytes (damaged n cs) b = changed cs (take n (b ++ replicate 16 0))

-- A room of so many bytes, no two neighbours alike.
abbrev pub room : ℕ → List ℕ
room zero = []
room (suc i) = (i % 256) ∷ room i

-- The number and the length answered are these, and so is every byte of the room.
abbrev pub builds : Built → List ℕ → List ℕ → Bool
builds o ns after = same (o.number ∷ o.result_length ∷ []) ns && same o.room after

-- The five numbers answered are these, and so is every byte of the room.
abbrev pub reads : Scanned → List ℕ → List ℕ → Bool
reads o ns after = same (scanned o) (ns ++ after)

module _ (t : List ℕ) (images : List (List ℕ)) where
  -- The bytes that were written.
  abbrev pub bytes_of : Written → List ℕ
  bytes_of nothing = []
  bytes_of (the_table l) = lent_bytes l t
  bytes_of (the_image i) = get_or images i []
  bytes_of (these ws) = all16 ws

  -- The room afterwards: what was written fills its first bytes, and the rest stays.
  abbrev pub after : Written → ℕ → List ℕ
  after w r = bytes_of w ++ room (r - length (bytes_of w))

  -- The definitions compute what the independent implementation answered and wrote.
  unfoldable pub agrees : Case → Bool
  unfolding number16 number32 bytes16 bytes32 ◌⊕◌ check_word_of label_count label labels_from labels_behind labels next table_grounds stored depth_of worst_hops view_grounds image.labels image.default image.count image.entry_at image_grounds label_bytes_of labels_held_of record_bytes entry_bytes front trailer parts image_of_view stored_entries image_of table_from table_of weight singles end_near joined d longest joined_longest added_or_dropped pairs neighbours is_root_of root points_to forest toward_root levels toward_start defaults scan_of judge_table_of judge_image_of compacted compact_grounds compact write_grounds write expand_grounds expand scan_grounds scan
  agrees (compacts order D r ns w) = builds (compact t order D (room r)) ns (after w r)
  agrees (writes ds n r ns w) = builds (write t (take n (all16 ds)) (room r)) ns (after w r)
  agrees (judges i l n) = eqb (judge_image_of (lent_bytes l (get_or images i []))) n
  agrees (expands i l r ns w) = builds (expand (lent_bytes l (get_or images i [])) (room r)) ns (after w r)
  agrees (scans i l s payload r ns w) = reads (scan (lent_bytes l (get_or images i [])) s payload (room r)) ns (after w r)

  -- The definitions agree with the independent implementation in every case.
  abbrev pub all_agree : List Case → Bool
  all_agree [] = true
  all_agree (c ∷ cs) = agrees c && all_agree cs

-- The row is right: the table is judged as it was, and every case agrees.
abbrev pub row_right : Row → Bool
row_right r =
    let t = lent_bytes r.lent (around 3 (spread r.runs) r.table) in
    let images = map (around 6 (take 256 (drop 6 t))) r.images in
    eqb (judge_table_of t) r.judged && all_agree t images r.cases

-- Every row is right.
abbrev pub right : List Row → Bool
right [] = true
right (r ∷ rs) = row_right r && right rs
