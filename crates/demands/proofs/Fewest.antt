-- Fewest entries over images: m and the defaults in the records of what compact leaves are together no more than those of what write leaves.
use mathlib.Core.Path.{◌≡◌}
use mathlib.Core.List.{List}
use Prim.Native.Nat.{ℕ, ◌+◌, ◌≤◌}
use Rattle.paper.specs.Words.{Bytes}
use Rattle.paper.specs.Table.{states}
use Rattle.paper.specs.Defaults.{defaults}
use Rattle.paper.specs.Operations.{result, listed, compact, write}
use Rattle.paper.proofs.Orders.{defaults_few}
use Rattle.trees.proofs.Fewest.{fewest}
use Rattle.trips.proofs.ExpandsBack.{compact_leaves, write_leaves}
use Rattle.demands.proofs.Transitions.{image_transitions_of, image_transitions}

-- In the orders 0, 1 and 2, with D at n - 1 or more, compact leaves no more than write leaves with any list of defaults that it accepts.
pub fewest_entries : (t ds : List ℕ) (order D : ℕ) (room room' : List ℕ) → Bytes t → order ≤ 2 → states t ≤ D + 1 → (compact t order D room).number ≡ 0 → (write t ds room').number ≡ 0
    → image_transitions_of (result (compact t order D room)) ≤ image_transitions_of (result (write t ds room'))
fewest_entries t ds order D room room' B few large e e' =
    let (w, W) = compact_leaves t order D room e in
    let (w', W') = write_leaves t ds room' e' in
    rw (
      w,
      w',
      image_transitions t (defaults t order D) B W,
      image_transitions t (listed ds) B W',
      defaults_few t order D few,
    )
    (fewest t order D large (listed ds) W'.inside W'.ends)
