-- Every default of what write and compact leave is worth its hops; and what it is that rewrite leaves.
use mathlib.Core.Path.{◌≡◌, sym, ap₂, subst, ◌∙◌}
use mathlib.Core.Bool.{false}
use mathlib.Core.Option.{Option}
use mathlib.Core.List.{List}
use Prim.Native.Nat.{ℕ, ◌<◌}
use native.Mathlib.Omega.{arith}
use lib.ListN.{length}
use Rattle.paper.specs.Words.{Bytes}
use Rattle.paper.specs.Refusals.{first}
use Rattle.paper.specs.Table as table
use Rattle.paper.specs.Results.{image_of}
use Rattle.paper.specs.Defaults.{defaults}
use Rattle.paper.specs.Rewrite.{not_worth, rewritten, AllWorth}
use Rattle.paper.specs.Operations.{judge_image_of, result, listed, compact, write_grounds, write, rewrite_grounds, rewrite}
use Rattle.trips.proofs.Writable.{Writable}
use Rattle.trips.proofs.ImageOf.{reads, defaults_of_image, table_of_image}
use Rattle.trips.proofs.DefaultsWritable.{defaults_worth}
use Rattle.trips.proofs.Building.{built-result}
use Rattle.trips.proofs.Accepts.{write_worth, rewrite_judged}
use Rattle.trips.proofs.ExpandsBack.{write_leaves, compact_leaves}

-- So it is with an image of defaults that are.
image_of_worth : (t : List ℕ) (default : ℕ → Option ℕ) → Bytes t → Writable t default → ((s : ℕ) → s < table.states t → not_worth t s (default s) ≡ false) → AllWorth (image_of t default)
image_of_worth t default B W worth s hs =
    let ht : s < table.states t = omega (arith, (reads t default B W).view_is.states_same) in
    ap₂ (λ (x : List ℕ) (o : Option ℕ). not_worth x s o) (table_of_image t default B W) (defaults_of_image t default B W s ht) ∙ worth s ht

-- Of what write leaves.
pub write_leaves_worth : (t ds room : List ℕ) → Bytes t → (write t ds room).number ≡ 0 → AllWorth (result (write t ds room))
unfolding write
write_leaves_worth t ds room B e =
    let (z, _) = built-result (first (write_grounds t ds (length room))) (image_of t (listed ds)) room e in
    let (w, W) = write_leaves t ds room e in
    subst AllWorth (sym w) (image_of_worth t (listed ds) B W (write_worth t ds (length room) z))

-- Of what compact leaves, in every order.
pub compact_leaves_worth : (t : List ℕ) (order D : ℕ) (room : List ℕ) → Bytes t → (compact t order D room).number ≡ 0 → AllWorth (result (compact t order D room))
compact_leaves_worth t order D room B e =
    let (w, W) = compact_leaves t order D room e in
    subst AllWorth (sym w) (image_of_worth t (defaults t order D) B W (λ s hs. defaults_worth t order D s))

-- What rewrite accepts is an accepted image, and leaves it rewritten.
pub rewrite_leaves : (b room : List ℕ) → (rewrite b room).number ≡ 0 → (judge_image_of b ≡ 0) × (result (rewrite b room) ≡ rewritten b)
unfolding rewrite
rewrite_leaves b room e =
    let (z, w) = built-result (first (rewrite_grounds b (length room))) (rewritten b) room e in
    (rewrite_judged b (length room) z, w)
