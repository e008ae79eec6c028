-- What a refusal answers and leaves: its number, every other number 0, and the room as it was.
use mathlib.Core.Path.{◌≡◌, refl}
use mathlib.Core.List.{List}
use Prim.Native.Nat.{ℕ, zero, suc}
use lib.ListN.{length}
use Rattle.paper.specs.Refusals.{first}
use Rattle.paper.specs.Labels.{one, two}
use Rattle.paper.specs.Results.{image_of, moved, table_of}
use Rattle.paper.specs.Scan.{Run, scan_of, walk_of}
use Rattle.paper.specs.Operations.{Unchanged, building, scanning, filled, listed, compacted, compact_grounds, compact, write_grounds, write, expand_grounds, expand, rewrite_grounds, rewrite, strings_grounds, strings, reduce_grounds, reduce, forward_grounds, forward, back_grounds, back, scan_grounds, scan, walk_grounds, walk, apply_grounds, apply, patched_scan_grounds, patched_scan}
use Rattle.paper.specs.Rewrite.{rewritten}
use Rattle.paper.specs.Strings.{tabulated}
use Rattle.paper.specs.Reduce.{reduced}
use Rattle.paper.specs.Patch.{applied, patched_scan_of}
use Rattle.paper.specs.Promises.{IsBuilt}

-- A refusal answers its number and 0, and leaves the room.
pub refused : (v number : ℕ) (result room : List ℕ) → v ≡ number → ¬ (v ≡ 0) → IsBuilt (building number result room) v 0 room
refused zero number result room e n = absurd (n refl)
refused (suc v) number result room e n = rw (← e) (record { number_is = refl; length_is = refl; room_is = refl })

-- Acceptance answers 0 and the result's length, and fills the first bytes of the room.
pub built : (number : ℕ) (result room after : List ℕ) (l : ℕ) → number ≡ 0 → l ≡ length result → after ≡ filled result room
    → IsBuilt (building number result room) 0 l after
built number result room after l e q r = rw e (record { number_is = refl; length_is = q; room_is = r })

building_refused : (number : ℕ) (result room : List ℕ) → ¬ ((building number result room).number ≡ 0) → Unchanged (building number result room) room
building_refused zero result room n = absurd (n refl)
building_refused (suc r) result room n = (refl, refl)

-- Compact.
pub compact_refused : (t : List ℕ) (order D : ℕ) (room : List ℕ) → ¬ ((compact t order D room).number ≡ 0) → Unchanged (compact t order D room) room
unfolding compact
compact_refused t order D room = building_refused (first (compact_grounds t order D (length room))) (compacted t order D) room

-- Write.
pub write_refused : (t ds room : List ℕ) → ¬ ((write t ds room).number ≡ 0) → Unchanged (write t ds room) room
unfolding write
write_refused t ds room = building_refused (first (write_grounds t ds (length room))) (image_of t (listed ds)) room

-- Expand.
pub expand_refused : (b room : List ℕ) → ¬ ((expand b room).number ≡ 0) → Unchanged (expand b room) room
unfolding expand
expand_refused b room = building_refused (first (expand_grounds b (length room))) (table_of b) room

-- Forward.
pub forward_refused : (b room : List ℕ) → ¬ ((forward b room).number ≡ 0) → Unchanged (forward b room) room
unfolding forward
forward_refused b room = building_refused (first (forward_grounds b (length room))) (moved two b) room

-- Back.
pub back_refused : (b room : List ℕ) → ¬ ((back b room).number ≡ 0) → Unchanged (back b room) room
unfolding back
back_refused b room = building_refused (first (back_grounds b (length room))) (moved one b) room

-- Rewrite.
pub rewrite_refused : (b room : List ℕ) → ¬ ((rewrite b room).number ≡ 0) → Unchanged (rewrite b room) room
unfolding rewrite
rewrite_refused b room = building_refused (first (rewrite_grounds b (length room))) (rewritten b) room

-- Strings.
pub strings_refused : (b room : List ℕ) → ¬ ((strings b room).number ≡ 0) → Unchanged (strings b room) room
unfolding strings
strings_refused b room = building_refused (first (strings_grounds b (length room))) (tabulated b) room

-- Reduce.
pub reduce_refused : (t room : List ℕ) → ¬ ((reduce t room).number ≡ 0) → Unchanged (reduce t room) room
unfolding reduce
reduce_refused t room = building_refused (first (reduce_grounds t (length room))) (reduced t) room

-- Apply.
pub apply_refused : (b x room : List ℕ) → ¬ ((apply b x room).number ≡ 0) → Unchanged (apply b x room) room
unfolding apply
apply_refused b x room = building_refused (first (apply_grounds b x (length room))) (applied b x) room

scanning_refused : (number : ℕ) (r : Run) (room : List ℕ) → ¬ ((scanning number r room).number ≡ 0)
    → ((scanning number r room).taken ≡ 0) × ((scanning number r room).state ≡ 0) × ((scanning number r room).reports ≡ 0) × ((scanning number r room).hops ≡ 0) × ((scanning number r room).room ≡ room)
scanning_refused zero r room n = absurd (n refl)
scanning_refused (suc q) r room n = (refl, refl, refl, refl, refl)

-- Scan.
pub scan_refused : (b : List ℕ) (s : ℕ) (payload room : List ℕ) → ¬ ((scan b s payload room).number ≡ 0)
    → ((scan b s payload room).taken ≡ 0) × ((scan b s payload room).state ≡ 0) × ((scan b s payload room).reports ≡ 0) × ((scan b s payload room).hops ≡ 0) × ((scan b s payload room).room ≡ room)
unfolding scan
scan_refused b s payload room = scanning_refused (first (scan_grounds b s payload)) (scan_of b s payload (length room)) room

-- Walk.
pub walk_refused : (t : List ℕ) (s : ℕ) (payload room : List ℕ) → ¬ ((walk t s payload room).number ≡ 0)
    → ((walk t s payload room).taken ≡ 0) × ((walk t s payload room).state ≡ 0) × ((walk t s payload room).reports ≡ 0) × ((walk t s payload room).hops ≡ 0) × ((walk t s payload room).room ≡ room)
unfolding walk
walk_refused t s payload room = scanning_refused (first (walk_grounds t s payload)) (walk_of t s payload (length room)) room

-- The patched scan.
pub patched_scan_refused : (b x : List ℕ) (s : ℕ) (payload room : List ℕ) → ¬ ((patched_scan b x s payload room).number ≡ 0)
    → ((patched_scan b x s payload room).taken ≡ 0) × ((patched_scan b x s payload room).state ≡ 0) × ((patched_scan b x s payload room).reports ≡ 0) × ((patched_scan b x s payload room).hops ≡ 0) × ((patched_scan b x s payload room).room ≡ room)
unfolding patched_scan
patched_scan_refused b x s payload room = scanning_refused (first (patched_scan_grounds b x s payload)) (patched_scan_of b x s payload (length room)) room
