-- The cases that the paper marks with a star, and those of the requests: two tables, each one statement.
use Rattle.std.specs.Prelude.{Bool, true, ◌&&◌, List, [], ◌∷◌, ◌++◌, map, ℕ, ◌+◌, ◌*◌, length, replicate, take, drop}
use Rattle.paper.specs.Below.{sum, same, list, or}
use Rattle.paper.specs.Words.{bytes16, all16, bytes32, words, check_word_of}
use Rattle.paper.specs.Refusals.{first}
use Rattle.paper.specs.Labels.{two}
use Rattle.paper.specs.Table.{states}
use Rattle.paper.specs.View.{Found, look}
use Rattle.paper.specs.Image as image
use Rattle.paper.specs.Image.{entries, depth, worst, image_view, first_loader_grounds}
use Rattle.paper.specs.Results.{default_number_of, image_of, moved}
use Rattle.paper.specs.Forest.{Trees, weight, singles, joined, root, lean, forest}
use Rattle.paper.specs.FallBack.{level}
use Rattle.paper.specs.Strings.{tabulated}
use Rattle.paper.specs.Reduce.{reduced}
use Rattle.paper.specs.Operations.{judge_table_of, judge_image_of, Built, compacted, compact, listed, write, expand, rewrite, strings, reduce, forward, back, Scanned, scan, walk, judge_patch_of, apply, patched_scan}
use Rattle.paper.specs.Programs.{bounds_text_of, served_text_of}

-- The classes of the bytes where 'a' is class x, 'b' class y and every other byte 0.
abbrev pub classes_of_two : ℕ → ℕ → List ℕ
classes_of_two x y = replicate 97 0 ++ (x ∷ y ∷ []) ++ replicate 157 0

-- Table T.
abbrev pub T : List ℕ
T =
    all16 (4 ∷ 3 ∷ 0 ∷ []) ++ classes_of_two 1 2 ++ all16 (0 ∷ 0 ∷ 7 ∷ 9 ∷ [])
    ++ all16 (0 ∷ 1 ∷ 0 ∷ []) ++ all16 (0 ∷ 1 ∷ 2 ∷ []) ++ all16 (0 ∷ 1 ∷ 3 ∷ []) ++ all16 (0 ∷ 1 ∷ 0 ∷ [])

-- The table of three states.
abbrev pub three : List ℕ
three =
    all16 (3 ∷ 2 ∷ 0 ∷ []) ++ classes_of_two 0 1 ++ all16 (0 ∷ 0 ∷ 0 ∷ []) ++ all16 (0 ∷ 0 ∷ []) ++ all16 (0 ∷ 1 ∷ []) ++ all16 (1 ∷ 1 ∷ [])

-- The table of eight equal rows.
abbrev pub eight : List ℕ
eight = all16 (8 ∷ 3 ∷ 0 ∷ []) ++ classes_of_two 1 2 ++ replicate 16 0 ++ replicate 48 0

-- A room of some length.
abbrev pub room : ℕ → List ℕ
room n = replicate n 255

-- The entries, depth and worst of an image, then each state's default.
abbrev pub numbers : List ℕ → List ℕ
numbers b = entries b ∷ depth b ∷ worst b ∷ list (image.states b) (λ s. default_number_of (image.default b s))

-- The number and the length answered, then the numbers of the image in the room.
abbrev pub built : Built → List ℕ
built o = o.number ∷ o.result_length ∷ numbers (take o.result_length o.room)

-- The five numbers answered, then the room.
abbrev pub scanned : Scanned → List ℕ
scanned o = o.number ∷ o.taken ∷ o.state ∷ o.reports ∷ o.hops ∷ o.room

-- The first byte, the first two, and so on.
abbrev pub beginnings : List ℕ → List (List ℕ)
beginnings [] = []
beginnings (x ∷ xs) = (x ∷ []) ∷ map (λ p. x ∷ p) (beginnings xs)

-- The payload "aabbb".
abbrev pub aabbb : List ℕ
aabbb = 97 ∷ 97 ∷ 98 ∷ 98 ∷ 98 ∷ []

-- The image of T with D 2.
abbrev pub T2 : List ℕ
T2 = compacted T 0 2

-- The image of three states with 2 to 1 and 1 to 0: write took its list until request C-22.
abbrev pub three3 : List ℕ
three3 = image_of three (listed (all16 (65535 ∷ 0 ∷ 1 ∷ [])))

-- T written with 0, 1 and 2 to 3.
abbrev pub T3 : List ℕ
T3 = image_of T (listed (all16 (3 ∷ 3 ∷ 3 ∷ 65535 ∷ [])))

-- A case: what is computed, and what the paper gives.
abbrev pub Case : Type 0
Case = List ℕ × List ℕ

-- In each case what is computed is what the paper gives.
abbrev pub right : List Case → Bool
right [] = true
right (c ∷ cs) = same c.0 c.1 && right cs

-- The pairs of a list as numbers, those added first at the front.
abbrev pub shown : List (ℕ × ℕ) → List ℕ
shown [] = []
shown (p ∷ ps) = shown ps ++ (p.0 ∷ p.1 ∷ [])

-- The tree (0,1), (1,2), (2,3), (2,4).
abbrev pub tree5 : Trees
tree5 = joined (joined (joined (joined singles 0 1) 1 2) 2 3) 2 4

-- A table of five states whose forest is this tree, though every pair has weight 1 or more.
abbrev pub five : List ℕ
five =
    all16 (5 ∷ 6 ∷ 0 ∷ []) ++ (replicate 97 0 ++ (1 ∷ 2 ∷ 3 ∷ 4 ∷ 5 ∷ []) ++ replicate 154 0) ++ replicate 10 0
    ++ all16 (0 ∷ 0 ∷ 0 ∷ 0 ∷ 0 ∷ 0 ∷ []) ++ all16 (0 ∷ 0 ∷ 0 ∷ 1 ∷ 1 ∷ 1 ∷ []) ++ all16 (0 ∷ 0 ∷ 2 ∷ 1 ∷ 2 ∷ 2 ∷ [])
    ++ all16 (0 ∷ 0 ∷ 3 ∷ 3 ∷ 2 ∷ 3 ∷ []) ++ all16 (0 ∷ 0 ∷ 4 ∷ 4 ∷ 4 ∷ 2 ∷ [])

-- A table of seven states on which order 3 shows its rules: 1 falls to 0; 2 shares one class with 0 and has no default; 3 falls to 1, with which it shares more than with 0; 4 shares two classes with 0 and with 1,
-- 5 these and all with 4, whose level is its own, and both fall to 0; 6 is not reached and has none, though its row is the start state's.
abbrev pub seven : List ℕ
seven =
    all16 (7 ∷ 3 ∷ 0 ∷ []) ++ classes_of_two 1 2 ++ replicate 14 0
    ++ all16 (1 ∷ 2 ∷ 0 ∷ []) ++ all16 (3 ∷ 2 ∷ 0 ∷ []) ++ all16 (1 ∷ 4 ∷ 5 ∷ []) ++ all16 (3 ∷ 2 ∷ 0 ∷ [])
    ++ all16 (5 ∷ 2 ∷ 0 ∷ []) ++ all16 (5 ∷ 2 ∷ 0 ∷ []) ++ all16 (1 ∷ 2 ∷ 0 ∷ [])

-- The level of each state of a table, 65535 for none.
abbrev pub levelled : List ℕ → List ℕ
levelled t = list (states t) (λ x. or (level t x) 65535)

-- What a look-up finds: the next state, the hops and the server.
abbrev pub found : Found → List ℕ
found f = f.target ∷ f.hops ∷ f.server ∷ []

-- The lines that the paper gives for `bounds` of T.
abbrev pub lines_of_T : List ℕ
lines_of_T =
    98 ∷ 111 ∷ 117 ∷ 110 ∷ 100 ∷ 32 ∷ 100 ∷ 101 ∷ 112 ∷ 116 ∷ 104 ∷ 32 ∷ 119 ∷ 111 ∷ 114 ∷ 115 ∷ 116 ∷ 32 ∷ 115 ∷ 116 ∷ 111 ∷ 114 ∷ 101 ∷ 100 ∷ 32 ∷ 100 ∷ 101 ∷ 102 ∷ 97 ∷ 117 ∷ 108 ∷ 116 ∷ 115 ∷ 32 ∷ 98 ∷ 121 ∷ 116 ∷ 101 ∷ 115
    ∷ 10
    ∷ 48 ∷ 32 ∷ 48 ∷ 32 ∷ 48 ∷ 32 ∷ 49 ∷ 50 ∷ 32 ∷ 48 ∷ 32 ∷ 51 ∷ 53 ∷ 50 ∷ 10
    ∷ 49 ∷ 32 ∷ 49 ∷ 32 ∷ 49 ∷ 32 ∷ 55 ∷ 32 ∷ 50 ∷ 32 ∷ 51 ∷ 51 ∷ 50 ∷ 10
    ∷ 50 ∷ 32 ∷ 49 ∷ 32 ∷ 49 ∷ 32 ∷ 53 ∷ 32 ∷ 51 ∷ 32 ∷ 51 ∷ 50 ∷ 52 ∷ 10
    ∷ 51 ∷ 32 ∷ 49 ∷ 32 ∷ 49 ∷ 32 ∷ 53 ∷ 32 ∷ 51 ∷ 32 ∷ 51 ∷ 50 ∷ 52 ∷ 10
    ∷ []

-- Table T in edition 2, with these counts of labels and these labels behind them.
abbrev pub labelled : List ℕ → List ℕ → List ℕ
labelled counts ls = all16 (32772 ∷ 3 ∷ 0 ∷ []) ++ classes_of_two 1 2 ++ all16 counts ++ all16 ls ++ drop 270 T

-- With the labels 7 and 8 on state 2 and 9 on state 3.
abbrev pub T_two : List ℕ
T_two = labelled (0 ∷ 0 ∷ 2 ∷ 1 ∷ []) (7 ∷ 8 ∷ 9 ∷ [])

-- Its image with D 2.
abbrev pub T2_two : List ℕ
T2_two = compacted T_two 0 2

-- A string of a word list: its label, its length and its bytes.
abbrev pub string_of : ℕ → List ℕ → List ℕ
string_of l w = all16 (l ∷ length w ∷ []) ++ w

-- The word list "he", "she", "his", "hers" with the labels 1 to 4.
abbrev pub hers : List ℕ
hers = bytes16 4 ++ string_of 1 (104 ∷ 101 ∷ []) ++ string_of 2 (115 ∷ 104 ∷ 101 ∷ []) ++ string_of 3 (104 ∷ 105 ∷ 115 ∷ []) ++ string_of 4 (104 ∷ 101 ∷ 114 ∷ 115 ∷ [])

-- The payload "ushers".
abbrev pub ushers : List ℕ
ushers = 117 ∷ 115 ∷ 104 ∷ 101 ∷ 114 ∷ 115 ∷ []

-- The reports of "he", "she" and "hers" in it.
abbrev pub ushers_told : List ℕ
ushers_told = bytes32 3 ++ bytes16 1 ++ bytes32 3 ++ bytes16 2 ++ bytes32 5 ++ bytes16 4

-- A table of five states whose states 1 and 3, and 2 and 4, no payload tells apart, and whose state 0 the start state 2 does not reach.
abbrev pub twice : List ℕ
twice =
    all16 (5 ∷ 3 ∷ 2 ∷ []) ++ classes_of_two 1 2 ++ all16 (0 ∷ 5 ∷ 0 ∷ 5 ∷ 0 ∷ [])
    ++ all16 (0 ∷ 0 ∷ 0 ∷ []) ++ all16 (1 ∷ 3 ∷ 2 ∷ []) ++ all16 (2 ∷ 1 ∷ 4 ∷ []) ++ all16 (3 ∷ 1 ∷ 4 ∷ []) ++ all16 (4 ∷ 3 ∷ 2 ∷ [])

-- A patch that fits an image: these words, with q entries at their end, and the trailer.
abbrev pub patch_for : List ℕ → ℕ → List ℕ → List ℕ
patch_for b q ws =
    let body = all16 ws ++ bytes32 (4 * q + 12) ++ bytes32 (2 * length ws + 12) ++ bytes16 (image.check b) in
    body ++ bytes16 (check_word_of (words body))

-- The patch that makes state 3 of T's image with D 2 a root.
abbrev pub X3 : List ℕ
X3 = patch_for T2 3 (1 ∷ 1 ∷ 1 ∷ 3 ∷ 0 ∷ 3 ∷ 65535 ∷ 3 ∷ 0 ∷ 0 ∷ 1 ∷ 1 ∷ 2 ∷ 0 ∷ [])

-- The patch that gives state 0 the row (0,1,2): the entry of state 1, which it does not list, is then what its default gives.
abbrev pub X0 : List ℕ
X0 = patch_for T2 3 (1 ∷ 1 ∷ 1 ∷ 3 ∷ 0 ∷ 0 ∷ 65535 ∷ 3 ∷ 0 ∷ 0 ∷ 1 ∷ 1 ∷ 2 ∷ 2 ∷ [])

-- The starred cases in the paper's order; 65535 is no default, and a room is 255 where it is not written.
abbrev pub starred : List Case
starred =
    (length T ∷ judge_table_of T ∷ [], 294 ∷ 0 ∷ [])
    ∷ (map (λ (p : ℕ × ℕ). weight T p.0 p.1) ((0, 3) ∷ (0, 1) ∷ (0, 2) ∷ (1, 2) ∷ (1, 3) ∷ (2, 3) ∷ []), 2 ∷ 1 ∷ 1 ∷ 1 ∷ 1 ∷ 1 ∷ [])
    ∷ (built (compact T 0 0 (room 352)), 0 ∷ 352 ∷ 12 ∷ 0 ∷ 0 ∷ 65535 ∷ 65535 ∷ 65535 ∷ 65535 ∷ [])
    ∷ (built (compact T 0 1 (room 332)), 0 ∷ 332 ∷ 7 ∷ 1 ∷ 1 ∷ 65535 ∷ 65535 ∷ 1 ∷ 0 ∷ [])
    ∷ (built (compact T 0 2 (room 324)), 0 ∷ 324 ∷ 5 ∷ 1 ∷ 1 ∷ 65535 ∷ 0 ∷ 0 ∷ 0 ∷ [])
    ∷ (map (λ p. (scan T2 0 p (room 12)).state) (beginnings aabbb), 1 ∷ 1 ∷ 2 ∷ 3 ∷ 0 ∷ [])
    ∷ (scanned (scan T2 0 aabbb (room 12)), 0 ∷ 5 ∷ 0 ∷ 2 ∷ 2 ∷ (bytes32 2 ++ bytes16 7 ++ bytes32 3 ++ bytes16 9))
    ∷ (scanned (scan T2 0 aabbb (room 6)), 0 ∷ 3 ∷ 2 ∷ 1 ∷ 1 ∷ (bytes32 2 ++ bytes16 7))
    ∷ (scanned (scan T2 0 aabbb (room 5)), 0 ∷ 2 ∷ 1 ∷ 0 ∷ 1 ∷ room 5)
    ∷ (built (write T (all16 (3 ∷ 3 ∷ 3 ∷ 65535 ∷ [])) (room 324)), 0 ∷ 324 ∷ 5 ∷ 1 ∷ 1 ∷ 3 ∷ 3 ∷ 3 ∷ 65535 ∷ [])
    ∷ (scanned (scan T3 0 (97 ∷ []) (room 6)), 0 ∷ 1 ∷ 1 ∷ 0 ∷ 1 ∷ room 6)
    ∷ (judge_image_of three3 ∷ length three3 ∷ numbers three3, 0 ∷ 314 ∷ 4 ∷ 2 ∷ 1 ∷ 65535 ∷ 0 ∷ 1 ∷ [])
    ∷ (built (compact eight 0 2 (room 340)), 0 ∷ 340 ∷ 3 ∷ 1 ∷ 1 ∷ 65535 ∷ 0 ∷ 0 ∷ 0 ∷ 0 ∷ 0 ∷ 0 ∷ 0 ∷ [])
    ∷ (map check_word_of ([] ∷ (1 ∷ 2 ∷ []) ∷ (65535 ∷ 1 ∷ []) ∷ []), 65535 ∷ 65532 ∷ 65534 ∷ [])
    ∷ []

-- The cases of the requests in their order, 65535 and 255 as above.
abbrev pub requested : List Case
requested =
    (shown (forest eight 1 2).added, 0 ∷ 1 ∷ 2 ∷ 3 ∷ 4 ∷ 5 ∷ 6 ∷ 7 ∷ [])
    ∷ (built (compact eight 1 2 (room 376)), 0 ∷ 376 ∷ 12 ∷ 1 ∷ 1 ∷ 65535 ∷ 0 ∷ 65535 ∷ 2 ∷ 65535 ∷ 4 ∷ 65535 ∷ 6 ∷ [])
    ∷ (built (compact eight 2 2 (room 340)), 0 ∷ 340 ∷ 3 ∷ 1 ∷ 1 ∷ 65535 ∷ 0 ∷ 0 ∷ 0 ∷ 0 ∷ 0 ∷ 0 ∷ 0 ∷ [])
    ∷ ((compact [] 4 2 []).number ∷ (compact [] 3 2 []).number ∷ [], 18 ∷ 1 ∷ [])
    ∷ (map check_word_of ((32768 ∷ 32768 ∷ []) ∷ (1 ∷ 65534 ∷ []) ∷ (65535 ∷ 65535 ∷ 65535 ∷ []) ∷ (65535 ∷ 2 ∷ 65535 ∷ []) ∷ []), 65534 ∷ 0 ∷ 0 ∷ 65533 ∷ [])
    ∷ (map (root 5 (lean 5) tree5) (0 ∷ 1 ∷ 2 ∷ 3 ∷ 4 ∷ []), 2 ∷ 2 ∷ 2 ∷ 2 ∷ 2 ∷ [])
    ∷ (map (λ r. sum 5 (λ x. tree5.distance x r)) (1 ∷ 2 ∷ []), 6 ∷ 5 ∷ [])
    ∷ (shown (forest five 0 3).added, 0 ∷ 1 ∷ 1 ∷ 2 ∷ 2 ∷ 3 ∷ 2 ∷ 4 ∷ [])
    ∷ (built (compact five 0 3 (room 382)), 0 ∷ 382 ∷ 18 ∷ 2 ∷ 2 ∷ 1 ∷ 2 ∷ 65535 ∷ 2 ∷ 2 ∷ [])
    ∷ (levelled T, 0 ∷ 1 ∷ 2 ∷ 3 ∷ [])
    ∷ (built (compact T 3 0 (room 324)), 0 ∷ 324 ∷ 5 ∷ 1 ∷ 1 ∷ 65535 ∷ 0 ∷ 0 ∷ 0 ∷ [])
    ∷ (levelled eight, 0 ∷ replicate 7 65535)
    ∷ (built (compact eight 3 0 (room 424)), 0 ∷ 424 ∷ 24 ∷ 0 ∷ 0 ∷ 65535 ∷ 65535 ∷ 65535 ∷ 65535 ∷ 65535 ∷ 65535 ∷ 65535 ∷ 65535 ∷ [])
    ∷ (levelled seven, 0 ∷ 1 ∷ 1 ∷ 2 ∷ 2 ∷ 2 ∷ 65535 ∷ [])
    ∷ (built (compact seven 3 0 (room 370)), 0 ∷ 370 ∷ 12 ∷ 2 ∷ 2 ∷ 65535 ∷ 0 ∷ 65535 ∷ 1 ∷ 0 ∷ 0 ∷ 65535 ∷ [])
    ∷ (bounds_text_of T, lines_of_T)
    ∷ (bounds_text_of [], 114 ∷ 101 ∷ 102 ∷ 117 ∷ 115 ∷ 101 ∷ 100 ∷ 32 ∷ 49 ∷ 10 ∷ [])
    ∷ (found (look (image_view T2) 1 2) ++ found (look (image_view T2) 3 2), 2 ∷ 0 ∷ 1 ∷ 0 ∷ 1 ∷ 0 ∷ [])
    ∷ (served_text_of (T2 ++ aabbb), 48 ∷ 32 ∷ 51 ∷ 32 ∷ 49 ∷ 10 ∷ 49 ∷ 32 ∷ 49 ∷ 32 ∷ 50 ∷ 10 ∷ 50 ∷ 32 ∷ 49 ∷ 32 ∷ 49 ∷ 10 ∷ 51 ∷ 32 ∷ 48 ∷ 32 ∷ 49 ∷ 10 ∷ [])
    ∷ (served_text_of T2, 48 ∷ 32 ∷ 48 ∷ 32 ∷ 48 ∷ 10 ∷ 49 ∷ 32 ∷ 48 ∷ 32 ∷ 48 ∷ 10 ∷ 50 ∷ 32 ∷ 48 ∷ 32 ∷ 48 ∷ 10 ∷ 51 ∷ 32 ∷ 48 ∷ 32 ∷ 48 ∷ 10 ∷ [])
    ∷ (served_text_of (take 323 T2), 114 ∷ 101 ∷ 102 ∷ 117 ∷ 115 ∷ 101 ∷ 100 ∷ 32 ∷ 51 ∷ 10 ∷ [])
    ∷ (scanned (walk T 0 aabbb (room 12)), 0 ∷ 5 ∷ 0 ∷ 2 ∷ 0 ∷ (bytes32 2 ++ bytes16 7 ++ bytes32 3 ++ bytes16 9))
    ∷ (scanned (walk T 0 aabbb (room 6)), 0 ∷ 3 ∷ 2 ∷ 1 ∷ 0 ∷ (bytes32 2 ++ bytes16 7))
    ∷ ((walk T 4 aabbb []).number ∷ [], 14 ∷ [])
    ∷ (length T_two ∷ judge_table_of T_two ∷ judge_image_of T2_two ∷ first (first_loader_grounds T2_two) ∷ [], 300 ∷ 0 ∷ 0 ∷ 2 ∷ [])
    ∷ (built (compact T_two 0 2 (room 330)), 0 ∷ 330 ∷ 5 ∷ 1 ∷ 1 ∷ 65535 ∷ 0 ∷ 0 ∷ 0 ∷ [])
    ∷ ((expand T2_two (room 300)).room, T_two)
    ∷ (scanned (scan T2_two 0 aabbb (room 18)), 0 ∷ 5 ∷ 0 ∷ 3 ∷ 2 ∷ (bytes32 2 ++ bytes16 7 ++ bytes32 2 ++ bytes16 8 ++ bytes32 3 ++ bytes16 9))
    ∷ (scanned (scan T2_two 0 aabbb (room 12)), 0 ∷ 3 ∷ 2 ∷ 2 ∷ 1 ∷ (bytes32 2 ++ bytes16 7 ++ bytes32 2 ++ bytes16 8))
    ∷ (scanned (scan T2_two 0 aabbb (room 6)), 0 ∷ 2 ∷ 1 ∷ 0 ∷ 1 ∷ room 6)
    ∷ (map (λ b. judge_table_of b) (labelled (17 ∷ 0 ∷ 0 ∷ 0 ∷ []) [] ∷ take 269 (labelled (17 ∷ 0 ∷ 0 ∷ 0 ∷ []) []) ∷ take 270 (labelled (17 ∷ 0 ∷ 0 ∷ 0 ∷ []) []) ∷ []), 19 ∷ 3 ∷ 19 ∷ [])
    ∷ (map (λ ls. judge_table_of (labelled (2 ∷ 0 ∷ 0 ∷ 1 ∷ []) ls)) ((7 ∷ 7 ∷ 9 ∷ []) ∷ (7 ∷ 8 ∷ 0 ∷ []) ∷ (7 ∷ 8 ∷ 7 ∷ []) ∷ []), 19 ∷ 19 ∷ 0 ∷ [])
    ∷ (scanned (walk T_two 0 aabbb (room 12)), 0 ∷ 3 ∷ 2 ∷ 2 ∷ 0 ∷ (bytes32 2 ++ bytes16 7 ++ bytes32 2 ++ bytes16 8))
    ∷ (served_text_of (T2_two ++ aabbb), served_text_of (T2 ++ aabbb))
    ∷ (built (forward T2 (room 328)), 0 ∷ 328 ∷ 5 ∷ 1 ∷ 1 ∷ 65535 ∷ 0 ∷ 0 ∷ 0 ∷ [])
    ∷ ((back (moved two T2) (room 324)).room, T2)
    ∷ ((forward T2_two (room 330)).number ∷ (back T2 (room 324)).number ∷ (back T2_two (room 324)).number ∷ (back (moved two T2) (room 323)).number ∷ [], 20 ∷ 20 ∷ 21 ∷ 16 ∷ [])
    ∷ ((write three (all16 (65535 ∷ 0 ∷ 1 ∷ [])) (room 314)).number ∷ (write three (all16 (65535 ∷ 2 ∷ 1 ∷ [])) (room 314)).number ∷ (write three (all16 (65535 ∷ 0 ∷ 1 ∷ [])) []).number ∷ [], 25 ∷ 11 ∷ 25 ∷ [])
    ∷ ((expand three3 (room 280)).room, three)
    ∷ (scanned (scan three3 2 (98 ∷ []) (room 6)), 0 ∷ 1 ∷ 1 ∷ 0 ∷ 1 ∷ room 6)
    ∷ (built (rewrite three3 (room 322)), 0 ∷ 322 ∷ 6 ∷ 0 ∷ 0 ∷ 65535 ∷ 65535 ∷ 65535 ∷ [])
    ∷ ((rewrite three3 (room 321)).number ∷ [], 16 ∷ [])
    ∷ ((rewrite T2 (room 324)).room, T2)
    ∷ ((rewrite T2_two (room 330)).room, T2_two)
    ∷ (length (tabulated hers) ∷ (strings hers (room 412)).number ∷ (strings hers (room 411)).number ∷ [], 412 ∷ 0 ∷ 16 ∷ [])
    ∷ (scanned (walk (tabulated hers) 0 ushers (room 18)), 0 ∷ 6 ∷ 9 ∷ 3 ∷ 0 ∷ ushers_told)
    ∷ (map (λ w. (strings w []).number) (take 29 hers ∷ (hers ++ (0 ∷ [])) ∷ (bytes16 2 ++ string_of 5 (97 ∷ []) ++ string_of 5 (98 ∷ [])) ∷ []), 26 ∷ 26 ∷ 27 ∷ [])
    ∷ (reduced T, T)
    ∷ (reduced eight, all16 (1 ∷ 3 ∷ 0 ∷ []) ++ classes_of_two 1 2 ++ replicate 8 0)
    ∷ (reduced twice, all16 (2 ∷ 3 ∷ 1 ∷ []) ++ classes_of_two 1 2 ++ all16 (5 ∷ 0 ∷ 0 ∷ 0 ∷ 1 ∷ 1 ∷ 0 ∷ 1 ∷ []))
    ∷ ((reduce twice (room 278)).number ∷ (reduce twice (room 277)).number ∷ (reduce (take 5 twice) []).number ∷ [], 0 ∷ 16 ∷ 1 ∷ [])
    ∷ (length X3 ∷ map (judge_patch_of T2) (X3 ∷ X0 ∷ take 39 X3 ∷ []) ++ (judge_patch_of T3 X3 ∷ []), 40 ∷ 0 ∷ 12 ∷ 22 ∷ 23 ∷ [])
    ∷ ((apply T2 X3 (room 336)).room, image_of T (listed (all16 (65535 ∷ 0 ∷ 0 ∷ 65535 ∷ []))))
    ∷ (scanned (scan T2 3 (97 ∷ []) (room 6)) ++ scanned (patched_scan T2 X3 3 (97 ∷ []) (room 6)), (0 ∷ 1 ∷ 1 ∷ 0 ∷ 1 ∷ room 6) ++ (0 ∷ 1 ∷ 1 ∷ 0 ∷ 0 ∷ room 6))
    ∷ []
