-- Expand undoes write and compact: of what they leave it gives the table, byte for byte.
use mathlib.Core.Path.{◌≡◌, sym, ap, ◌∙◌}
use mathlib.Core.Option.{Option}
use mathlib.Core.List.{List}
use Prim.Native.Nat.{ℕ, ◌≤◌}
use lib.ListN.{length, take}
use Rattle.paper.specs.Words.{Bytes}
use Rattle.paper.specs.Refusals.{first}
use Rattle.paper.specs.Results.{image_of}
use Rattle.paper.specs.Defaults.{defaults}
use Rattle.paper.specs.Operations.{result, building, listed, compacted, compact_grounds, compact, write_grounds, write, expand}
use Rattle.paper.specs.Promises.{IsBuilt, Compacts, Writes, Expands}
use Rattle.trips.proofs.Writable.{Writable}
use Rattle.trips.proofs.ImageOf.{image_of_accepted, table_of_image}
use Rattle.trips.proofs.Building.{built-result, result_promised}
use Rattle.trips.proofs.Accepts.{expand_accepts, write_writable, compact_writable}

-- Expand of the image of a table that can be written gives the table.
pub expand_image : (t : List ℕ) (default : ℕ → Option ℕ) (room : List ℕ) → Bytes t → Writable t default → length t ≤ length room
    → expand (image_of t default) room ≡ building 0 t room
expand_image t default room B W h =
    let e = table_of_image t default B W in
    expand_accepts (image_of t default) room (image_of_accepted t default B W) (rw e h) ∙ ap (λ (x : List ℕ). building 0 x room) e

-- What write leaves is the image of the table with the defaults listed, which can be written.
pub write_leaves : (t ds room : List ℕ) → (write t ds room).number ≡ 0 → (result (write t ds room) ≡ image_of t (listed ds)) × Writable t (listed ds)
unfolding write
write_leaves t ds room e =
    let (z, w) = built-result (first (write_grounds t ds (length room))) (image_of t (listed ds)) room e in
    (w, write_writable t ds (length room) z)

-- What compact leaves is the image of the table with the defaults of its order, which can be written.
pub compact_leaves : (t : List ℕ) (order D : ℕ) (room : List ℕ) → (compact t order D room).number ≡ 0
    → (result (compact t order D room) ≡ image_of t (defaults t order D)) × Writable t (defaults t order D)
unfolding compact compacted
compact_leaves t order D room e =
    let (z, w) = built-result (first (compact_grounds t order D (length room))) (compacted t order D) room e in
    (w, compact_writable t order D (length room) z)

-- Expand of what write leaves gives the table.
pub expand-write : (t ds room room' : List ℕ) → Bytes t → (write t ds room).number ≡ 0 → length t ≤ length room'
    → expand (result (write t ds room)) room' ≡ building 0 t room'
expand-write t ds room room' B e h =
    let (w, W) = write_leaves t ds room e in
    ap (λ (b : List ℕ). expand b room') w ∙ expand_image t (listed ds) room' B W h

-- Expand of what compact leaves gives the table.
pub expand-compact : (t : List ℕ) (order D : ℕ) (room room' : List ℕ) → Bytes t → (compact t order D room).number ≡ 0 → length t ≤ length room'
    → expand (result (compact t order D room)) room' ≡ building 0 t room'
expand-compact t order D room room' B e h =
    let (w, W) = compact_leaves t order D room e in
    ap (λ (b : List ℕ). expand b room') w ∙ expand_image t (defaults t order D) room' B W h

-- So with what is promised: the numbers and the room that write leaves, and those that expand leaves of its result.
pub expands_back : (t ds room room' : List ℕ) (number l number' l' : ℕ) (r r' : List ℕ) → Bytes t
    → Writes t ds room number l r → number ≡ 0 → Expands (take l r) room' number' l' r' → length t ≤ length room'
    → IsBuilt (building 0 t room') number' l' r'
expands_back t ds room room' number l number' l' r r' B P e Q h =
    result_promised (λ b. expand b room') P Q (expand-write t ds room room' B (sym P.number_is ∙ e) h)

-- So with compact.
pub compact_expands_back : (t : List ℕ) (order D : ℕ) (room room' : List ℕ) (number l number' l' : ℕ) (r r' : List ℕ) → Bytes t
    → Compacts t order D room number l r → number ≡ 0 → Expands (take l r) room' number' l' r' → length t ≤ length room'
    → IsBuilt (building 0 t room') number' l' r'
compact_expands_back t order D room room' number l number' l' r r' B P e Q h =
    result_promised (λ b. expand b room') P Q (expand-compact t order D room room' B (sym P.number_is ∙ e) h)
