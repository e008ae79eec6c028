-- When expand, write, compact and rewrite accept, and what they then leave.
use mathlib.Core.Path.{◌≡◌, refl, ap, ap₂, ◌∙◌}
use mathlib.Core.Bool.{true, false, not, ◌||◌}
use mathlib.Core.Option.{Option, none, some}
use mathlib.Core.List.{List, [], ◌∷◌, ◌++◌}
use Prim.Native.Nat.{ℕ, ◌*◌, ◌≤◌, ◌<◌}
use lib.Dec.{ltb}
use lib.ListN.{length}
use borrow.Author.Tests.{le-ltb, lt-leb}
use Rattle.paper.specs.Below.{any, differ, given}
use Rattle.paper.specs.Refusals.{Ground, first}
use Rattle.paper.specs.Table as table
use Rattle.paper.specs.Table.{table_grounds}
use Rattle.paper.specs.View.{endless, default_bad_of, view_grounds}
use Rattle.paper.specs.Image.{image_grounds}
use Rattle.paper.specs.Results.{table_view, image_of, table_of}
use Rattle.paper.specs.Defaults.{defaults}
use Rattle.paper.specs.Rewrite.{not_worth, rewritten}
use Rattle.paper.specs.Operations.{judge_table_of, judge_image_of, building, listed, compacted, compact_grounds, write_grounds, write, expand_grounds, expand, rewrite_grounds}
use Rattle.paper.proofs.Below.{any_at, any_none}
use Rattle.paper.proofs.Refusals.{Clear, past, first_append, accepted, cleared}
use Rattle.paper.proofs.Tests.{passes, or_both, or_neither, same_differ}
use Rattle.trips.proofs.Writable.{Writable, writable}
use Rattle.trips.proofs.DefaultsWritable.{defaults_writable}
use Rattle.trips.proofs.Building.{first_both, first_neither}

-- Expand accepts an accepted image with room for its table.
pub expand_accepts : (b room : List ℕ) → judge_image_of b ≡ 0 → length (table_of b) ≤ length room → expand b room ≡ building 0 (table_of b) room
unfolding expand expand_grounds judge_image_of image_grounds view_grounds
expand_accepts b room e h =
    ap (λ (g : ℕ). building g (table_of b) room)
    (first_neither (image_grounds b) ((16, ltb (length room) (length (table_of b))) ∷ []) refl e (rw (le-ltb (length room) (length (table_of b)) h)))

-- It accepts no other image.
pub expand_judged : (b : List ℕ) (room : ℕ) → first (expand_grounds b room) ≡ 0 → judge_image_of b ≡ 0
unfolding expand_grounds judge_image_of image_grounds view_grounds
expand_judged b room e = (first_both (image_grounds b) ((16, ltb room (length (table_of b))) ∷ []) refl e).0

-- What rewrite accepts is an accepted image too.
pub rewrite_judged : (b : List ℕ) (room : ℕ) → first (rewrite_grounds b room) ≡ 0 → judge_image_of b ≡ 0
unfolding rewrite_grounds judge_image_of image_grounds view_grounds
rewrite_judged b room e = (first_both (image_grounds b) ((16, ltb room (length (rewritten b))) ∷ []) refl e).0

-- Write's own grounds, behind the table's.
abbrev write_own : List ℕ → List ℕ → ℕ → List Ground
write_own t ds room =
    (8, differ (length ds) (2 * table.states t) || any (table.states t) (λ s. default_bad_of (table.states t) (listed ds s)))
    ∷ (11, any (table.states t) (endless (table_view t (listed ds))))
    ∷ (25, any (table.states t) (λ s. not_worth t s (listed ds s)))
    ∷ (16, ltb room (length (image_of t (listed ds))))
    ∷ []

-- What write accepts can be written.
pub write_writable : (t ds : List ℕ) (room : ℕ) → first (write_grounds t ds room) ≡ 0 → Writable t (listed ds)
unfolding write_grounds table_grounds judge_table_of
write_writable t ds room e =
    let (judged, own) = first_both (table_grounds t) (write_own t ds room) refl e in
    let c : Clear (write_own t ds room) = accepted (write_own t ds room) refl own in
    writable t (listed ds) judged (or_both (differ (length ds) (2 * table.states t)) _ c.0).1 c.1.0

-- The defaults that it accepts are worth their hops.
pub write_worth : (t ds : List ℕ) (room : ℕ) → first (write_grounds t ds room) ≡ 0 → (s : ℕ) → s < table.states t → not_worth t s (listed ds s) ≡ false
unfolding write_grounds table_grounds
write_worth t ds room e s hs =
    let (_, own) = first_both (table_grounds t) (write_own t ds room) refl e in
    let c : Clear (write_own t ds room) = accepted (write_own t ds room) refl own in
    any_at (table.states t) s (λ s. not_worth t s (listed ds s)) c.1.1.0 hs

module _ (t ds : List ℕ) (W : Writable t (listed ds)) (long : length ds ≡ 2 * table.states t) where
  -- n, the number of states.
  abbrev n : ℕ
  n = table.states t

  -- Of a list of the right length with defaults that can be written 8 is not given.
  list_right : differ (length ds) (2 * n) || any n (λ s. default_bad_of n (listed ds s)) ≡ false
  list_right =
      or_neither (differ (length ds) (2 * n)) _ (same_differ (length ds) (2 * n) long) (any_none n (λ s. default_bad_of n (listed ds s)) (λ s hs. below s hs (listed ds s) refl))
    where
      below : (s : ℕ) → s < n → (o : Option ℕ) → listed ds s ≡ o → default_bad_of n o ≡ false
      below s hs none q = refl
      below s hs (some d) q = lt-leb n d (W.inside s d hs q)

  -- Nor is 11.
  list-ends : any n (endless (table_view t (listed ds))) ≡ false
  list-ends = any_none n (endless (table_view t (listed ds))) (λ s hs. let (l, q) = W.ends s hs in ap (λ (o : Option ℕ). not (given o)) q)

  -- Write accepts them where they are worth their hops and there is room for the image.
  pub write_accepts : (room : List ℕ) → ((s : ℕ) → s < table.states t → not_worth t s (listed ds s) ≡ false) → length (image_of t (listed ds)) ≤ length room
      → write t ds room ≡ building 0 (image_of t (listed ds)) room
  unfolding write write_grounds table_grounds judge_table_of
  write_accepts room worth h =
      ap (λ (g : ℕ). building g (image_of t (listed ds)) room)
      (first_neither (table_grounds t) (write_own t ds (length room)) refl W.judged
      (cleared (write_own t ds (length room))
      (list_right, (list-ends, (any_none n (λ s. not_worth t s (listed ds s)) worth, (le-ltb (length room) (length (image_of t (listed ds))) h, refl))))))

  -- Where one is not it refuses them with 25, whatever the room.
  pub write_refuses : (room : List ℕ) → ¬ ((s : ℕ) → s < table.states t → not_worth t s (listed ds s) ≡ false) → write t ds room ≡ building 25 (image_of t (listed ds)) room
  unfolding write write_grounds table_grounds judge_table_of
  write_refuses room weak =
      let some_weak : any n (λ s. not_worth t s (listed ds s)) ≡ true = passes _ (λ e. weak (λ s hs. any_at n s (λ s. not_worth t s (listed ds s)) e hs)) in
      let own : first (write_own t ds (length room)) ≡ 25 = rw (list_right, list-ends, some_weak) refl in
      let g : first (table_grounds t ++ write_own t ds (length room)) ≡ 25 = first_append (table_grounds t) (write_own t ds (length room)) refl ∙ ap₂ past W.judged own in
      ap (λ (g : ℕ). building g (image_of t (listed ds)) room) g

-- What compact accepts can be written with the defaults of its order.
pub compact_writable : (t : List ℕ) (order D room : ℕ) → first (compact_grounds t order D room) ≡ 0 → Writable t (defaults t order D)
unfolding compact_grounds table_grounds judge_table_of
compact_writable t order D room e =
    let known : List Ground = (18, ltb 3 order) ∷ [] in
    let own : List Ground = (16, ltb room (length (compacted t order D))) ∷ [] in
    defaults_writable t (first_both (table_grounds t) own refl (first_both known (table_grounds t ++ own) refl e).1).0 order D
