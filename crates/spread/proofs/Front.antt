-- The parts of a table that are copied from its image.
use mathlib.Core.Path.{◌≡◌, ◌∙◌}
use mathlib.Core.List.{List}
use Prim.Native.Nat.{ℕ, ◌+◌, ◌-◌, ◌≤◌, ◌<◌}
use native.Mathlib.Nat.{zero-add}
use native.Mathlib.Omega.{arith}
use lib.ListN.{length, take, drop, length-take, length-drop}
use lib.Seq.{get_or-take, get_or-drop}
use Rattle.paper.specs.Words.{byte_at}
use Rattle.words.specs.Placed.{placed}
use Rattle.spread.specs.Kept.{Kept}
use Rattle.spread.specs.Front.{Fronted}
use Rattle.spread.proofs.Placing.{byte_within}
use Rattle.spread.proofs.Kept.{kept-placed, kept_then}

-- The room after a part of b was copied into it: its bytes there are those of b, and nothing else was written.
pub record Copied (b : List ℕ) (start count : ℕ) (old room : List ℕ) (at : ℕ) : Type 0 where
  pub kept : Kept old room at (at + count)
  pub bytes_are : (i : ℕ) → i < count → byte_at room (at + i) ≡ byte_at b (start + i)

-- A part of b that is placed is copied.
pub placed_copied : {old room : List ℕ} (b : List ℕ) (start count at : ℕ) → start + count ≤ length b → at + count ≤ length old
    → room ≡ placed old at (take count (drop start b)) → Copied b start count old room at
placed_copied {old} {room} b start count at inside fits e =
    let part = take count (drop start b) in
    let size : length part ≡ count = simp (length-take, length-drop) (omega arith) in
    rw e
    (record {
      kept = kept-placed old at part (at + count) (omega arith) fits;
      bytes_are = λ i l. byte_within old at part (omega arith) i (omega arith) ∙ get_or-take count (drop start b) i 0 l ∙ get_or-drop start b i 0;
    })

-- The front and then the rest copied make the beginning of the table.
pub copied_front : {b old mid room : List ℕ} {first : ℕ} → 6 ≤ first → Copied b 0 6 old mid 0 → Copied b 12 (first - 6) mid room 6 → Fronted b first old room
copied_front {first} h F R =
    record {
      kept = kept_then 0 first F.kept R.kept (omega arith) (omega arith) (omega arith) (omega arith);
      front_is = λ i l. R.kept.before i l ∙ rw zero-add at (F.bytes_are i l);
      rest_is = λ i l. R.bytes_are i (omega arith);
    }
