-- Each part is written behind the one before it; together they are the image with the patch applied.
use mathlib.Core.Path.{◌≡◌, ◌∙◌}
use Prim.Native.Nat.{◌+◌, ◌*◌, ◌≤◌}
use native.Mathlib.Omega.{arith}
use lib.ListN.{length}
use Rattle.words.proofs.Lent.{fits_bytes}
use Rattle.apply.proofs.Filled.{small, long, applied-filled}
use Rattle.apply.proofs.fill.Goals as goal
use Rattle.apply.proofs.fill.Goals.{After-room-4-1, Start}

-- The numbers are small, and the image is as long as its labels and more.
few : (c : Start) → (c.args.n ≤ 512) × (c.args.held ≤ 8192) × (c.args.total ≤ 131072)
few c = let S = c.requires.0 in small S.accepted S.states_are c.requires.2

whole : (c : Start) → 280 + 6 * c.args.n + 2 * c.args.held ≤ length c.args.image.now
whole c = let S = c.requires.0 in long S.accepted S.states_are c.requires.2

-- Up to there the room keeps its length.
as_long : (c : After-room-4-1) → length c.put_entries-end.new.room ≡ length c.args.room.now
as_long c =
    c.room-4-1.given ∙ c.room-3-1.given ∙ c.room-2-1.given ∙ c.room-1.given

pub put_front-requires : goal.put_front-requires
put_front-requires c = (omega (arith, whole (goal.at.put_front-requires c).Start), omega (arith, c.requires.3))

pub overflow_mul-n : goal.overflow_mul-n
overflow_mul-n c = omega (arith, (few (goal.at.overflow_mul-n c).Start).0)

pub overflow_add-n : goal.overflow_add-n
overflow_add-n c = omega (arith, (few (goal.at.overflow_add-n c).Start).0)

pub overflow_mul-held : goal.overflow_mul-held
overflow_mul-held c = omega (arith, (few (goal.at.overflow_mul-held c).Start).1)

pub overflow_add-n-2 : goal.overflow_add-n-2
overflow_add-n-2 c = omega (arith, few (goal.at.overflow_add-n-2 c).Start)

pub copy-requires : goal.copy-requires
copy-requires c =
    (omega (arith, whole (goal.at.copy-requires c).Start), omega (arith, c.requires.3, c.room-1.given))

pub overflow_mul-n-2 : goal.overflow_mul-n-2
overflow_mul-n-2 c = omega (arith, (few (goal.at.overflow_mul-n-2 c).Start).0)

pub overflow_add-n-3 : goal.overflow_add-n-3
overflow_add-n-3 c = omega (arith, (few (goal.at.overflow_add-n-3 c).Start).0)

pub overflow_mul-held-2 : goal.overflow_mul-held-2
overflow_mul-held-2 c = omega (arith, (few (goal.at.overflow_mul-held-2 c).Start).1)

pub overflow_add-n-4 : goal.overflow_add-n-4
overflow_add-n-4 c = omega (arith, few (goal.at.overflow_add-n-4 c).Start)

pub put_records-requires : goal.put_records-requires
put_records-requires c =
    (c.requires.0, omega (arith, few (goal.at.put_records-requires c).Start), omega (arith, c.requires.3, c.room-2-1.given, c.room-1.given))

pub overflow_mul-n-3 : goal.overflow_mul-n-3
overflow_mul-n-3 c = omega (arith, (few (goal.at.overflow_mul-n-3 c).Start).0)

pub overflow_add-n-5 : goal.overflow_add-n-5
overflow_add-n-5 c = omega (arith, (few (goal.at.overflow_add-n-5 c).Start).0)

pub overflow_mul-held-3 : goal.overflow_mul-held-3
overflow_mul-held-3 c = omega (arith, (few (goal.at.overflow_mul-held-3 c).Start).1)

pub overflow_add-n-6 : goal.overflow_add-n-6
overflow_add-n-6 c = omega (arith, few (goal.at.overflow_add-n-6 c).Start)

pub put_entries-end-requires : goal.put_entries-end-requires
put_entries-end-requires c =
    (c.requires.1, omega (arith, few (goal.at.put_entries-end-requires c).Start), omega (arith, c.requires.2.total_is, c.requires.3, c.room-3-1.given, c.room-2-1.given, c.room-1.given))

pub put_trailer-requires : goal.put_trailer-requires
put_trailer-requires c =
    let (n, held, total) = few (goal.at.put_trailer-requires c).Start in
    (n, total, held, omega (arith, c.put_entries-end.ensures.0, c.requires.2.total_is, c.requires.3, as_long (goal.at.put_trailer-requires c).After-room-4-1))

pub overflow_add-end : goal.overflow_add-end
overflow_add-end c =
    omega (arith, c.put_entries-end.ensures.0, c.requires.2.total_is, few (goal.at.overflow_add-end c).Start)

pub put_check-requires : goal.put_check-requires
put_check-requires c =
    let far = c.put_entries-end.ensures.0 in (
      omega (arith, far, c.requires.2.total_is, c.requires.3, c.room-5-1.given, as_long (goal.at.put_check-requires c).After-room-4-1),
      omega (arith, far),
      omega (arith, far, c.requires.2.total_is, few (goal.at.put_check-requires c).Start),
    )

pub returns : goal.returns
returns c =
    let S = c.requires.0 in
    applied-filled S.accepted S.states_are c.requires.2 (fits_bytes c.args.image.now c.type_inv.image)
    c.args.room.now _ _ _ _ _ _ c.put_entries-end.result c.requires.3 c.put_front.ensures c.copy.ensures
    c.put_records.ensures c.put_entries-end.ensures.0 c.put_entries-end.ensures.1 c.put_trailer.ensures c.put_check.ensures
