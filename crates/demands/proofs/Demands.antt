-- The demands as theorems, over the operations' own functions on lists of bytes. Each operation in code promises to answer and leave what its function says.
-- Every notion in a statement stands in the definitions, crates/paper/specs.
use mathlib.Core.Path.{◌≡◌}
use mathlib.Core.Logic.{◌↔◌}
use mathlib.Core.Bool.{true}
use mathlib.Core.List.{List, [], ◌∷◌, ◌++◌}
use mathlib.Core.Option.{none, some}
use Prim.Native.Nat.{ℕ, ◌+◌, ◌-◌, ◌*◌, ◌/◌, ◌≤◌, ◌<◌}
use lib.ListN.{length, take}
use Rattle.paper.specs.Below.{sum, how_many_of, given}
use Rattle.paper.specs.Words.{byte_at, Bytes}
use Rattle.paper.specs.Refusals.{Ground, first}
use Rattle.paper.specs.Labels.{one, two}
use Rattle.paper.specs.Table.{edition, states, classes, start}
use Rattle.paper.specs.View.{stored, steps, look}
use Rattle.paper.specs.Image as image
use Rattle.paper.specs.Image.{image_view, first_loader_grounds}
use Rattle.paper.specs.Results.{default_bytes, table_of}
use Rattle.paper.specs.Forest.{Trees, longest, weight, singles, neighbours, weights_of, rest, forest}
use Rattle.paper.specs.Levels.{levels}
use Rattle.paper.specs.BestPair.{JoinsAll}
use Rattle.paper.specs.Paths.{TrueDistances}
use Rattle.paper.specs.Roots.{pairs_at, GoesBefore}
use Rattle.paper.specs.FallBack.{level}
use Rattle.paper.specs.Defaults.{defaults}
use Rattle.paper.specs.Reached.{LeadsTo, HasLevel}
use Rattle.paper.specs.Operations.{judge_table_of, judge_image_of, result, Unchanged, building, compact, write, expand, rewrite, strings, reduce, forward, back, scan, walk, judge_patch_of, apply, patched_scan}
use Rattle.paper.specs.Promises.{SameBuilt, JudgesTable, JudgesImage, Compacts, Writes, Expands, Rewrites, Tabulates, Reduces, MovesForward, MovesBack, Scans, Walks, JudgesPatch, Applies, ScansPatched, SameWalk}
use Rattle.paper.specs.Sentences.{FirstOf, Ends, LongestChain, Serves, LargestHops, table_sentences, image_sentences, compact_sentences, write_sentences, expand_sentences, rewrite_sentences, strings_sentences, reduce_sentences, forward_sentences, back_sentences, scan_sentences, walk_sentences, patch_sentences, apply_sentences, patched_scan_sentences}
use Rattle.paper.specs.Rewrite.{kept, AllWorth}
use Rattle.paper.specs.Wakes.{TellsAll, TableWakes, ImageWakes}
use Rattle.paper.specs.Follows.{ScansLike}
use Rattle.paper.specs.Altered.{Altered}
use Rattle.paper.specs.Cases.{built, right, room, starred, requested, three}
use Rattle.paper.proofs.Levels.{falling-levels}
use Rattle.paper.proofs.Exact as exact
use Rattle.paper.proofs.Determined as only
use Rattle.paper.proofs.Cases as stars
use Rattle.paper.proofs.Refused as refusing
use Rattle.facts.proofs.TableFacts.{accepted_table}
use Rattle.facts.proofs.ImageFacts.{accepted_image}
use Rattle.facts.proofs.Finds as finds
use Rattle.facts.proofs.FirstLoader as loader
use Rattle.damage.proofs.Damage as damage
use Rattle.trees.proofs.TrueDistances as trees
use Rattle.trees.proofs.Neighbours as around
use Rattle.trees.proofs.Best.{falling_joins, joins_falling}
use Rattle.levels.proofs.Payloads as reached
use Rattle.trips.proofs.ExpandsBack as expands
use Rattle.trips.proofs.WritesBack as writes
use Rattle.trips.proofs.WorthBuilt as worth
use Rattle.trips.proofs.EditionKept as editions
use Rattle.trips.proofs.MovesBack as returns
use Rattle.moves.proofs.Left as moves
use Rattle.scan.proofs.Hops as hops
use Rattle.walk.proofs.Hopless as hopless
use Rattle.nearing.proofs.Scan as nearing
use Rattle.demands.proofs.Scanned as scanned
use Rattle.demands.proofs.MovedScans as moved
use Rattle.demands.proofs.Left as left
use Rattle.demands.proofs.Compacted as compacted
use Rattle.demands.proofs.Fewest as least
use Rattle.demands.proofs.Rewritten as rewritten
use Rattle.demands.proofs.Wakes as links

-- Each operation's number is that of the first of its sentences that holds, 0 where none does.
pub refusals_exact : ((t : List ℕ) (number : ℕ) → judge_table_of t ≡ number ↔ FirstOf (table_sentences t) number)
    × ((b : List ℕ) (number : ℕ) → judge_image_of b ≡ number ↔ FirstOf (image_sentences b) number)
    × ((t : List ℕ) (order D : ℕ) (room : List ℕ) (number : ℕ) → (compact t order D room).number ≡ number ↔ FirstOf (compact_sentences t order D (length room)) number)
    × ((t ds room : List ℕ) (number : ℕ) → (write t ds room).number ≡ number ↔ FirstOf (write_sentences t ds (length room)) number)
    × ((b room : List ℕ) (number : ℕ) → (expand b room).number ≡ number ↔ FirstOf (expand_sentences b (length room)) number)
    × ((b room : List ℕ) (number : ℕ) → (forward b room).number ≡ number ↔ FirstOf (forward_sentences b (length room)) number)
    × ((b room : List ℕ) (number : ℕ) → (back b room).number ≡ number ↔ FirstOf (back_sentences b (length room)) number)
    × ((b room : List ℕ) (number : ℕ) → (rewrite b room).number ≡ number ↔ FirstOf (rewrite_sentences b (length room)) number)
    × ((b room : List ℕ) (number : ℕ) → (strings b room).number ≡ number ↔ FirstOf (strings_sentences b (length room)) number)
    × ((t room : List ℕ) (number : ℕ) → (reduce t room).number ≡ number ↔ FirstOf (reduce_sentences t (length room)) number)
    × ((b : List ℕ) (s : ℕ) (payload room : List ℕ) (number : ℕ) → (scan b s payload room).number ≡ number ↔ FirstOf (scan_sentences b s payload) number)
    × ((t : List ℕ) (s : ℕ) (payload room : List ℕ) (number : ℕ) → (walk t s payload room).number ≡ number ↔ FirstOf (walk_sentences t s payload) number)
    × ((b x : List ℕ) (number : ℕ) → judge_patch_of b x ≡ number ↔ FirstOf (patch_sentences b x) number)
    × ((b x room : List ℕ) (number : ℕ) → (apply b x room).number ≡ number ↔ FirstOf (apply_sentences b x (length room)) number)
    × ((b x : List ℕ) (s : ℕ) (payload room : List ℕ) (number : ℕ) → (patched_scan b x s payload room).number ≡ number ↔ FirstOf (patched_scan_sentences b x s payload) number)
refusals_exact = (
  exact.judge_table_exact,
  exact.judge_image_exact,
  exact.compact_exact,
  exact.write_exact,
  exact.expand_exact,
  exact.forward_exact,
  exact.back_exact,
  exact.rewrite_exact,
  exact.strings_exact,
  exact.reduce_exact,
  exact.scan_exact,
  exact.walk_exact,
  exact.judge_patch_exact,
  exact.apply_exact,
  exact.patched_scan_exact,
)

-- A refusal answers its number with every other number 0, and leaves the room as it was.
pub refused_unchanged : ((t : List ℕ) (order D : ℕ) (room : List ℕ) → ¬ ((compact t order D room).number ≡ 0) → Unchanged (compact t order D room) room)
    × ((t ds room : List ℕ) → ¬ ((write t ds room).number ≡ 0) → Unchanged (write t ds room) room)
    × ((b room : List ℕ) → ¬ ((expand b room).number ≡ 0) → Unchanged (expand b room) room)
    × ((b room : List ℕ) → ¬ ((forward b room).number ≡ 0) → Unchanged (forward b room) room)
    × ((b room : List ℕ) → ¬ ((back b room).number ≡ 0) → Unchanged (back b room) room)
    × ((b room : List ℕ) → ¬ ((rewrite b room).number ≡ 0) → Unchanged (rewrite b room) room)
    × ((b room : List ℕ) → ¬ ((strings b room).number ≡ 0) → Unchanged (strings b room) room)
    × ((t room : List ℕ) → ¬ ((reduce t room).number ≡ 0) → Unchanged (reduce t room) room)
    × ((b : List ℕ) (s : ℕ) (payload room : List ℕ) → ¬ ((scan b s payload room).number ≡ 0)
    → ((scan b s payload room).taken ≡ 0) × ((scan b s payload room).state ≡ 0) × ((scan b s payload room).reports ≡ 0) × ((scan b s payload room).hops ≡ 0) × ((scan b s payload room).room ≡ room))
    × ((t : List ℕ) (s : ℕ) (payload room : List ℕ) → ¬ ((walk t s payload room).number ≡ 0)
    → ((walk t s payload room).taken ≡ 0) × ((walk t s payload room).state ≡ 0) × ((walk t s payload room).reports ≡ 0) × ((walk t s payload room).hops ≡ 0) × ((walk t s payload room).room ≡ room))
    × ((b x room : List ℕ) → ¬ ((apply b x room).number ≡ 0) → Unchanged (apply b x room) room)
    × ((b x : List ℕ) (s : ℕ) (payload room : List ℕ) → ¬ ((patched_scan b x s payload room).number ≡ 0)
    → ((patched_scan b x s payload room).taken ≡ 0) × ((patched_scan b x s payload room).state ≡ 0) × ((patched_scan b x s payload room).reports ≡ 0) × ((patched_scan b x s payload room).hops ≡ 0) × ((patched_scan b x s payload room).room ≡ room))
refused_unchanged = (
  refusing.compact_refused,
  refusing.write_refused,
  refusing.expand_refused,
  refusing.forward_refused,
  refusing.back_refused,
  refusing.rewrite_refused,
  refusing.strings_refused,
  refusing.reduce_refused,
  refusing.scan_refused,
  refusing.walk_refused,
  refusing.apply_refused,
  refusing.patched_scan_refused,
)

-- Of an accepted image every proper beginning is refused.
pub prefix_refused : (b : List ℕ) (p : ℕ) → judge_image_of b ≡ 0 → p < length b → ¬ (judge_image_of (take p b) ≡ 0)
prefix_refused = damage.prefix_refused

-- Of an accepted image every copy with one byte altered is refused.
pub altered_refused : (b b' : List ℕ) → Bytes b → Bytes b' → judge_image_of b ≡ 0 → Altered b b' → ¬ (judge_image_of b' ≡ 0)
altered_refused = damage.altered_refused

-- The defaults in what compact leaves are those of the order asked for: in the orders 0, 1 and 2 of the bounded greedy forest, in order 3 toward the start. In order 0 that forest is three loops: over falling weights, first states and second states.
pub forest_defined : ((t : List ℕ) (order D : ℕ) (room : List ℕ) → Bytes t → (compact t order D room).number ≡ 0 → (s : ℕ) → s < states t → image.default (result (compact t order D room)) s ≡ defaults t order D s)
    × ((t : List ℕ) (D : ℕ) → forest t 0 D ≡ levels (states t) D (weight t) (classes t - 1) singles)
unfolding forest
forest_defined = (compacted.compacted-defaults, λ t D. falling-levels (states t) D (weight t) (classes t - 1) singles)

-- In the orders 0, 1 and 2 the forest is the one that is made by joining, of the pairs of the greatest weight, the best that can be added, as long as there is one: to drop a pair for good loses nothing.
pub best_pair_lem : (t : List ℕ) (order D : ℕ)
    → JoinsAll (states t) (rest order (states t)) D (weight t) (classes t - 1) singles (forest t order D)
    × ((G : Trees) → JoinsAll (states t) (rest order (states t)) D (weight t) (classes t - 1) singles G → forest t order D ≡ G)
unfolding forest
best_pair_lem t order D =
    (falling_joins (states t) (rest order (states t)) D (weight t) (classes t - 1) singles, joins_falling (states t) (rest order (states t)) D (weight t) (classes t - 1) singles)

-- The distances of the forest are the lengths of the paths over the pairs added.
pub distances_true : (t : List ℕ) (order D : ℕ) → TrueDistances (forest t order D)
distances_true = trees.distances_true

-- Of what compact leaves in the orders 0, 1 and 2 the root of each tree, its state without a default, has the smallest d in the tree, of those the most neighbours, and of those the smallest number.
-- A state's neighbours are the pairs added of which it is an end.
pub root-chosen : ((t : List ℕ) (order D : ℕ) (room : List ℕ) → Bytes t → (compact t order D room).number ≡ 0 → order ≤ 2 → (r y : ℕ) → r < states t → y < states t
    → image.default (result (compact t order D room)) r ≡ none → (forest t order D).tree r ≡ (forest t order D).tree y → GoesBefore (states t) (forest t order D) r y)
    × ((t : List ℕ) (order D x : ℕ) → neighbours (states t) (forest t order D) x ≡ pairs_at x (forest t order D).added)
root-chosen = (compacted.compacted-root, around.neighbours_added)

-- Expanding what write or compact built gives back the table, byte for byte.
pub expands_back : ((t ds room room' : List ℕ) → Bytes t → (write t ds room).number ≡ 0 → length t ≤ length room' → expand (result (write t ds room)) room' ≡ building 0 t room')
    × ((t : List ℕ) (order D : ℕ) (room room' : List ℕ) → Bytes t → (compact t order D room).number ≡ 0 → length t ≤ length room' → expand (result (compact t order D room)) room' ≡ building 0 t room')
expands_back = (expands.expand-write, expands.expand-compact)

-- Expanding an accepted image whose defaults are all worth their hops and writing it again with its own defaults gives back that image; of any other image write refuses its defaults with 25.
pub writes_back : ((b room room' : List ℕ) → Bytes b → (expand b room).number ≡ 0 → AllWorth b → length b ≤ length room' → write (result (expand b room)) (default_bytes b) room' ≡ building 0 b room')
    × ((b room room' : List ℕ) → Bytes b → (expand b room).number ≡ 0 → ¬ AllWorth b → (write (result (expand b room)) (default_bytes b) room').number ≡ 25)
writes_back = (writes.write-expand-own, writes.write-expand_weak)

-- Every default of what compact, in any order, and write leave is worth its hops.
pub worth_built : ((t : List ℕ) (order D : ℕ) (room : List ℕ) → Bytes t → (compact t order D room).number ≡ 0 → AllWorth (result (compact t order D room)))
    × ((t ds room : List ℕ) → Bytes t → (write t ds room).number ≡ 0 → AllWorth (result (write t ds room)))
worth_built = (worth.compact_leaves_worth, worth.write_leaves_worth)

-- What rewrite leaves is accepted, stands for the same table, and has no default that is not worth its hops; every other default stays. An image without such a default comes back byte for byte.
pub rewrite_leaves_none : (b room : List ℕ) → Bytes b → (rewrite b room).number ≡ 0
    → let r = result (rewrite b room) in
    (judge_image_of r ≡ 0) × (table_of r ≡ table_of b) × AllWorth r × ((s : ℕ) → s < image.states b → image.default r s ≡ kept (table_of b) s (image.default b s)) × (AllWorth b → r ≡ b)
rewrite_leaves_none b room B e =
    (rewritten.left_accepted b room B e, rewritten.left_table b room B e, rewritten.left_worth b room B e, rewritten.left-defaults b room B e, rewritten.left_same b room B e)

-- A scan of what rewrite leaves answers the number, the bytes taken, the state and the reports of that of the image and leaves the same bytes in the room: from every state, over every payload and with every room, refusals included.
pub rewrite_follows : (b room : List ℕ) → Bytes b → (rewrite b room).number ≡ 0
    → (s : ℕ) (payload reports : List ℕ) → Bytes payload → SameWalk (scan (result (rewrite b room)) s payload reports) (scan b s payload reports)
rewrite_follows = rewritten.left_scans

-- In what rewrite leaves no state and byte cost more hops than in the image, and so no payload does.
pub rewrite_hops : (b room : List ℕ) → Bytes b → (rewrite b room).number ≡ 0
    → let r = result (rewrite b room) in
    ((s x : ℕ) → s < image.states b → x < 256 → (look (image_view r) s (image.class_of r x)).hops ≤ (look (image_view b) s (image.class_of b x)).hops)
    × ((s : ℕ) (payload reports : List ℕ) → Bytes payload → (scan r s payload reports).hops ≤ (scan b s payload reports).hops)
rewrite_hops b room B e = (rewritten.left_hops b room B e, rewritten.left-scan_hops b room B e)

-- A result keeps the edition of its input: the image that write or compact leaves that of the table, the table that expand leaves and the image that rewrite leaves that of the image.
pub edition-kept : ((t ds room : List ℕ) → Bytes t → (write t ds room).number ≡ 0 → image.edition (result (write t ds room)) ≡ edition t)
    × ((t : List ℕ) (order D : ℕ) (room : List ℕ) → Bytes t → (compact t order D room).number ≡ 0 → image.edition (result (compact t order D room)) ≡ edition t)
    × ((b room : List ℕ) → Bytes b → (expand b room).number ≡ 0 → edition (result (expand b room)) ≡ image.edition b)
    × ((b room : List ℕ) → Bytes b → (rewrite b room).number ≡ 0 → image.edition (result (rewrite b room)) ≡ image.edition b)
edition-kept = (editions.write_keeps_edition, editions.compact_keeps_edition, editions.expand_keeps_edition, rewritten.left-edition)

-- Back of what forward leaves gives back the image, byte for byte.
pub forward-back : (b room room' : List ℕ) → Bytes b → (forward b room).number ≡ 0 → length b ≤ length room' → back (result (forward b room)) room' ≡ building 0 b room'
forward-back = returns.back_forwarded

-- Forward of what back leaves gives back the image, byte for byte.
pub back-forward : (b room room' : List ℕ) → Bytes b → (back b room).number ≡ 0 → length b ≤ length room' → forward (result (back b room)) room' ≡ building 0 b room'
back-forward = returns.forward_backed

-- What a move leaves is an accepted image of the other edition.
pub moved_accepted : ((b room : List ℕ) → Bytes b → (forward b room).number ≡ 0 → (judge_image_of (result (forward b room)) ≡ 0) × (image.edition b ≡ one) × (image.edition (result (forward b room)) ≡ two))
    × ((b room : List ℕ) → Bytes b → (back b room).number ≡ 0 → (judge_image_of (result (back b room)) ≡ 0) × (image.edition b ≡ two) × (image.edition (result (back b room)) ≡ one))
moved_accepted = (moves.forward-left, moves.back-left)

-- The scans of an image and of what a move leaves of it are the same: the number, the bytes taken, the state, the reports, the hops and every byte of the room, from every state, over every payload and with every room, refusals included.
pub moved_scans : ((b room : List ℕ) → Bytes b → (forward b room).number ≡ 0
    → (s : ℕ) (payload reports : List ℕ) → Bytes payload → scan (result (forward b room)) s payload reports ≡ scan b s payload reports)
    × ((b room : List ℕ) → Bytes b → (back b room).number ≡ 0
    → (s : ℕ) (payload reports : List ℕ) → Bytes payload → scan (result (back b room)) s payload reports ≡ scan b s payload reports)
moved_scans = (moved.forward_scans, moved.back_scans)

-- Any judge that begins with the first two grounds of the first edition, which takes the whole first word for n, refuses every accepted image of edition 2 with 2, whatever it tests afterwards.
pub first_edition_refuses : (b : List ℕ) (others : List Ground) → judge_image_of b ≡ 0 → image.edition b ≡ two → first (first_loader_grounds b ++ others) ≡ 2
first_edition_refuses = loader.first_edition_refuses

-- After every byte a scan is in the plain table's state and has reported exactly its matches, and it stops only before the first byte whose report has no room:
-- for any accepted image and its table, and for what compact and write left of a table that they were handed.
pub scan_follows : ((b : List ℕ) → Bytes b → judge_image_of b ≡ 0 → ScansLike (table_of b) b)
    × ((t : List ℕ) (order D : ℕ) (room : List ℕ) → Bytes t → (compact t order D room).number ≡ 0 → ScansLike t (result (compact t order D room)))
    × ((t ds room : List ℕ) → Bytes t → (write t ds room).number ≡ 0 → ScansLike t (result (write t ds room)))
scan_follows = (scanned.accepted_scans, left.of_compact ScansLike scanned.accepted_scans, left.of_write ScansLike scanned.accepted_scans)

-- The walk of a plain table and the scan of its image answer the same number, bytes taken, state and reports and leave the same bytes in the room, and the walk makes no hops: from every state, over every payload and with every room,
-- refusals included; for any accepted image and its table, and for a table and what compact and write left of it.
pub walk_same : ((b : List ℕ) → Bytes b → judge_image_of b ≡ 0 → (s : ℕ) (payload room : List ℕ) → Bytes payload → SameWalk (walk (table_of b) s payload room) (scan b s payload room))
    × ((t : List ℕ) (order D : ℕ) (room : List ℕ) → Bytes t → (compact t order D room).number ≡ 0
    → (s : ℕ) (payload reports : List ℕ) → Bytes payload → SameWalk (walk t s payload reports) (scan (result (compact t order D room)) s payload reports))
    × ((t ds room : List ℕ) → Bytes t → (write t ds room).number ≡ 0
    → (s : ℕ) (payload reports : List ℕ) → Bytes payload → SameWalk (walk t s payload reports) (scan (result (write t ds room)) s payload reports))
    × ((t : List ℕ) (s : ℕ) (payload room : List ℕ) → (walk t s payload room).hops ≡ 0)
walk_same = (scanned.accepted_walks, left.of_compact scanned.SameWalks scanned.accepted_walks, left.of_write scanned.SameWalks scanned.accepted_walks, hopless.walk_hops)

-- The whole way, from a word list to the wakes of the host: what strings leaves tells, from its start state, exactly the strings of the list that end at each byte; and so does what is made of it by any steps, in any number and order:
-- reduce; compact in any order with any bound, and write with any list; expand; forward, back and rewrite; apply of a patch that leaves the table of the image as it was, with which the patched scan tells it too. Each link asks only that its operation accepts, and the last that the two tables are one.
pub wakes : (list : List ℕ)
    → ((room : List ℕ) → Bytes list → (strings list room).number ≡ 0 → TableWakes list (result (strings list room)))
    × ((t room : List ℕ) → (reduce t room).number ≡ 0 → TableWakes list t → TableWakes list (result (reduce t room)))
    × ((t : List ℕ) (order D : ℕ) (room : List ℕ) → (compact t order D room).number ≡ 0 → TableWakes list t → ImageWakes list (result (compact t order D room)))
    × ((t ds room : List ℕ) → (write t ds room).number ≡ 0 → TableWakes list t → ImageWakes list (result (write t ds room)))
    × ((b room : List ℕ) → (expand b room).number ≡ 0 → ImageWakes list b → TableWakes list (result (expand b room)))
    × ((b room : List ℕ) → (forward b room).number ≡ 0 → ImageWakes list b → ImageWakes list (result (forward b room)))
    × ((b room : List ℕ) → (back b room).number ≡ 0 → ImageWakes list b → ImageWakes list (result (back b room)))
    × ((b room : List ℕ) → (rewrite b room).number ≡ 0 → ImageWakes list b → ImageWakes list (result (rewrite b room)))
    × ((b x room : List ℕ) → (apply b x room).number ≡ 0 → table_of (result (apply b x room)) ≡ table_of b → ImageWakes list b
    → ImageWakes list (result (apply b x room)) × TellsAll list (patched_scan b x (image.start b)))
wakes list = (
  links.strings_wakes list,
  links.reduce_wakes list,
  links.compact_wakes list,
  links.write_wakes list,
  links.expand_wakes list,
  links.forward_wakes list,
  links.back_wakes list,
  links.rewrite_wakes list,
  links.apply_wakes list,
)

-- What the look-up finds for a state and a byte is what the chain gives: so many steps on stands the server, the first state that stores the class.
pub look-served : (b : List ℕ) → judge_image_of b ≡ 0 → (s x : ℕ) → s < image.states b → x < 256
    → let f = look (image_view b) s (image.class_of b x) in
    Serves (image_view b) s (image.class_of b x) f.server f.hops f.target
look-served b e = finds.look-served b (accepted_image b e)

-- The server is the state `hops` steps along the chain; it stores the target for the class, and no state before it stores one.
pub server_is : (b : List ℕ) → judge_image_of b ≡ 0 → (s x : ℕ) → s < image.states b → x < 256
    → let c = image.class_of b x in
    let f = look (image_view b) s c in
    (steps (image_view b) f.hops s ≡ some f.server) × (stored (image_view b) f.server c ≡ some f.target)
    × ((i y : ℕ) → i < f.hops → steps (image_view b) i s ≡ some y → stored (image_view b) y c ≡ none)
server_is b e s x hs hx = let S = look-served b e s x hs hx in (S.reached, S.stores, S.passed)

-- Hops counted are those of the chain's definition: for each byte taken a server on the chain of the state before it gives the state after it in so many hops, and these together are the hops answered.
pub hops_counted : (b : List ℕ) (s : ℕ) (payload room : List ℕ) → Bytes payload → (scan b s payload room).number ≡ 0
    → (server : ℕ → ℕ) × (hops : ℕ → ℕ)
    × ((i : ℕ) → i < (scan b s payload room).taken
    → Serves (image_view b) (scan b s (take i payload) room).state (image.class_of b (byte_at payload i)) (server i) (hops i) (scan b s (take (i + 1) payload) room).state)
    × ((scan b s payload room).hops ≡ sum (scan b s payload room).taken hops)
hops_counted b s payload room P e = let C = hops.hops_counted b s payload room P e in (_, _, C.served, C.together)

-- They are at most worst times the bytes taken.
pub hops_bounded : (b : List ℕ) (s : ℕ) (payload room : List ℕ) → Bytes payload → (scan b s payload room).number ≡ 0
    → (scan b s payload room).hops ≤ image.worst b * (scan b s payload room).taken
hops_bounded = hops.hops_bounded

-- Some state and byte cost exactly the worst that an accepted image states, and none costs more.
pub worst_met : (b : List ℕ) → judge_image_of b ≡ 0 → LargestHops (image_view b) (image.class_of b) (image.worst b)
worst_met b e = finds.stated_worst b (accepted_image b e)

-- Some chain is as long as the depth that an accepted image states, and none is longer.
pub depth_met : (b : List ℕ) → judge_image_of b ≡ 0 → LongestChain (image_view b) (image.depth b)
depth_met b e = finds.stated_depth b (accepted_image b e)

-- With path bound D every chain of what compact leaves in the orders 0, 1 and 2 ends after at most D halved and rounded up, and so is the depth stated.
pub half_of_bound : (t : List ℕ) (order D : ℕ) (room : List ℕ) → Bytes t → (compact t order D room).number ≡ 0 → order ≤ 2
    → ((s : ℕ) → s < states t → (l : ℕ) × Ends (image_view (result (compact t order D room))) s l × (l ≤ (D + 1) / 2))
    × (image.depth (result (compact t order D room)) ≤ (D + 1) / 2)
half_of_bound t order D room B e few = (compacted.compacted_chains t order D room B e few, compacted.compacted-depth t order D room B e few)

-- In the orders 0, 1 and 2 the longest chain that compact leaves in a tree of the forest is the tree's longest path halved and rounded up: its root is a centre, and no state lies farther from a centre than that.
pub tree_depth : (t : List ℕ) (order D : ℕ) (room : List ℕ) → Bytes t → (compact t order D room).number ≡ 0 → order ≤ 2 → (x : ℕ) → x < states t
    → let F = forest t order D in
    let v = image_view (result (compact t order D room)) in
    ((y l : ℕ) → y < states t → F.tree x ≡ F.tree y → Ends v y l → l ≤ (longest (states t) F x + 1) / 2)
    × ((y : ℕ) × (y < states t) × (F.tree x ≡ F.tree y) × Ends v y ((longest (states t) F x + 1) / 2))
tree_depth t order D room B e few x h = (λ y l. compacted.compacted_tree t order D room B e few x y l h, compacted.compacted_tree_met t order D room B e few x h)

-- Of what compact leaves in the orders 0, 1 and 2 the entries stored, plus the defaults in the records, plus the weights of the pairs added, equal n times k.
pub entries-sum : (t : List ℕ) (order D : ℕ) (room : List ℕ) → Bytes t → (compact t order D room).number ≡ 0 → order ≤ 2
    → let b = result (compact t order D room) in
    image.entries b + (how_many_of (image.states b) (λ s. given (image.default b s)) + weights_of (weight t) (forest t order D).added) ≡ states t * classes t
entries-sum = compacted.compacted-entries

-- Of what compact leaves in the orders 0, 1 and 2 with D at n - 1 or more the entries stored plus the defaults in the records are the fewest:
-- with no list of defaults that write accepts for the table does write leave fewer.
pub fewest_entries : (t ds : List ℕ) (order D : ℕ) (room room' : List ℕ) → Bytes t → order ≤ 2 → states t ≤ D + 1 → (compact t order D room).number ≡ 0 → (write t ds room').number ≡ 0
    → let b = result (compact t order D room) in
    let b' = result (write t ds room') in
    image.entries b + how_many_of (image.states b) (λ s. given (image.default b s)) ≤ image.entries b' + how_many_of (image.states b') (λ s. given (image.default b' s))
fewest_entries = least.fewest_entries

-- D 0 gives no defaults in the orders 0, 1 and 2.
pub bound_zero : (t : List ℕ) (order : ℕ) (room : List ℕ) → Bytes t → (compact t order 0 room).number ≡ 0 → order ≤ 2
    → (s : ℕ) → s < states t → image.default (result (compact t order 0 room)) s ≡ none
bound_zero = compacted.compacted_zero

-- D at n - 1 or more binds nothing in the orders 0, 1 and 2: with all such bounds compact answers and leaves the same. In order 3 it does with all bounds.
pub bound_free : ((t : List ℕ) (order : ℕ) (room : List ℕ) (D D' : ℕ) → order ≤ 2 → states t ≤ D + 1 → states t ≤ D' + 1 → compact t order D room ≡ compact t order D' room)
    × ((t room : List ℕ) (D D' : ℕ) → compact t 3 D room ≡ compact t 3 D' room)
bound_free = (compacted.compacted_free, compacted.compacted_ignores)

-- A state's level, by which order 3 chooses, is the fewest bytes of a payload that leads to it from the start state, and it has none just where no payload leads to it.
pub levels_true : (t : List ℕ) → judge_table_of t ≡ 0 → (x : ℕ) → x < states t
    → ((l : ℕ) → level t x ≡ some l ↔ HasLevel t x l) × (level t x ≡ none ↔ ((p : List ℕ) → ¬ LeadsTo t x p))
levels_true t e = reached.levels_true t (accepted_table t e)

-- Of what compact leaves in order 3 a scan from a state of level l answers no more hops than bytes taken and l, so from the start state no more than bytes taken: for every payload and room, wherever it stops.
-- Where a byte was taken it answers fewer.
pub toward_start_hops : (t : List ℕ) (D : ℕ) (room : List ℕ) → Bytes t → (compact t 3 D room).number ≡ 0
    → let b = result (compact t 3 D room) in
    ((s l : ℕ) → HasLevel t s l → (payload reports : List ℕ) → Bytes payload → (scan b s payload reports).number ≡ 0
    → ((scan b s payload reports).hops ≤ (scan b s payload reports).taken + l) × (0 < (scan b s payload reports).taken → (scan b s payload reports).hops < (scan b s payload reports).taken + l))
    × ((payload reports : List ℕ) → Bytes payload → (scan b (start t) payload reports).number ≡ 0 → (scan b (start t) payload reports).hops ≤ (scan b (start t) payload reports).taken)
toward_start_hops t D room B e = (nearing.level_hops t D room B e, nearing.start_hops t D room B e)

-- Of each operation any two outcomes that its promise allows are one: all its numbers, and every byte of its room.
pub determined : ((t : List ℕ) (n n' : ℕ) → JudgesTable t n → JudgesTable t n' → n ≡ n')
    × ((b : List ℕ) (n n' : ℕ) → JudgesImage b n → JudgesImage b n' → n ≡ n')
    × ((t : List ℕ) (order D : ℕ) (room : List ℕ) (n l n' l' : ℕ) (r r' : List ℕ) → Compacts t order D room n l r → Compacts t order D room n' l' r' → SameBuilt n l r n' l' r')
    × ((t ds room : List ℕ) (n l n' l' : ℕ) (r r' : List ℕ) → Writes t ds room n l r → Writes t ds room n' l' r' → SameBuilt n l r n' l' r')
    × ((b room : List ℕ) (n l n' l' : ℕ) (r r' : List ℕ) → Expands b room n l r → Expands b room n' l' r' → SameBuilt n l r n' l' r')
    × ((b room : List ℕ) (n l n' l' : ℕ) (r r' : List ℕ) → MovesForward b room n l r → MovesForward b room n' l' r' → SameBuilt n l r n' l' r')
    × ((b room : List ℕ) (n l n' l' : ℕ) (r r' : List ℕ) → MovesBack b room n l r → MovesBack b room n' l' r' → SameBuilt n l r n' l' r')
    × ((b room : List ℕ) (n l n' l' : ℕ) (r r' : List ℕ) → Rewrites b room n l r → Rewrites b room n' l' r' → SameBuilt n l r n' l' r')
    × ((b room : List ℕ) (n l n' l' : ℕ) (r r' : List ℕ) → Tabulates b room n l r → Tabulates b room n' l' r' → SameBuilt n l r n' l' r')
    × ((t room : List ℕ) (n l n' l' : ℕ) (r r' : List ℕ) → Reduces t room n l r → Reduces t room n' l' r' → SameBuilt n l r n' l' r')
    × ((b : List ℕ) (s : ℕ) (payload room : List ℕ) (n t q k h n' t' q' k' h' : ℕ) (r r' : List ℕ)
    → Scans b s payload room n t q k h r → Scans b s payload room n' t' q' k' h' r' → (n ≡ n') × (t ≡ t') × (q ≡ q') × (k ≡ k') × (h ≡ h') × (r ≡ r'))
    × ((b : List ℕ) (s : ℕ) (payload room : List ℕ) (n t q k h n' t' q' k' h' : ℕ) (r r' : List ℕ)
    → Walks b s payload room n t q k h r → Walks b s payload room n' t' q' k' h' r' → (n ≡ n') × (t ≡ t') × (q ≡ q') × (k ≡ k') × (h ≡ h') × (r ≡ r'))
    × ((b x : List ℕ) (n n' : ℕ) → JudgesPatch b x n → JudgesPatch b x n' → n ≡ n')
    × ((b x room : List ℕ) (n l n' l' : ℕ) (r r' : List ℕ) → Applies b x room n l r → Applies b x room n' l' r' → SameBuilt n l r n' l' r')
    × ((b x : List ℕ) (s : ℕ) (payload room : List ℕ) (n t q k h n' t' q' k' h' : ℕ) (r r' : List ℕ)
    → ScansPatched b x s payload room n t q k h r → ScansPatched b x s payload room n' t' q' k' h' r' → (n ≡ n') × (t ≡ t') × (q ≡ q') × (k ≡ k') × (h ≡ h') × (r ≡ r'))
determined = (
  only.judge_table_determined,
  only.judge_image_determined,
  only.compact_determined,
  only.write_determined,
  only.expand_determined,
  only.forward_determined,
  only.back_determined,
  only.rewrite_determined,
  only.strings_determined,
  only.reduce_determined,
  only.scan_determined,
  only.walk_determined,
  only.judge_patch_determined,
  only.apply_determined,
  only.patched_scan_determined,
)

-- The starred cases, one table, are right; the table of three states compacted with any D has 322 bytes and no defaults; and the cases of the requests, another table, are right.
pub cases : (right starred ≡ true) × ((D : ℕ) → built (compact three 0 D (room 322)) ≡ 0 ∷ 322 ∷ 6 ∷ 0 ∷ 0 ∷ 65535 ∷ 65535 ∷ 65535 ∷ []) × (right requested ≡ true)
cases = ((stars.cases).0, (stars.cases).1, stars.requests)
