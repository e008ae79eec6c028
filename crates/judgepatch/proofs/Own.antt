-- Of an accepted image with a patch, the grounds 8, 9 and 10 are those of the patch's own records and entries: no other record or entry is wrong.
use mathlib.Core.Path.{◌≡◌, refl, sym, ap, ap₂, ◌∙◌}
use mathlib.Core.Bool.{Bool, false, ◌||◌}
use mathlib.Core.List.{List}
use mathlib.Core.Option.{none}
use Prim.Native.Nat.{ℕ, zero, suc, ◌+◌, ◌*◌, ◌<◌}
use native.Mathlib.Omega.{arith}
use lib.Dec.{leb}
use Rattle.paper.specs.Below.{any}
use Rattle.paper.specs.Words.{number16}
use Rattle.paper.specs.View.{View, record_bad_of, entry_class_bad, any_entry, view_grounds}
use Rattle.paper.specs.Image as image
use Rattle.paper.specs.Image.{states, classes, image_view}
use Rattle.paper.specs.Patch.{listed_states, state_at_of, records_at_of, default, count, entry_at, entries_part_of, listed_at, patched_view}
use Rattle.paper.proofs.Below.{any_at, any_none, any_same}
use Rattle.paper.proofs.Tests.{or_both}
use Rattle.paper.proofs.Rising.{Rises}
use Rattle.facts.proofs.EntryFacts.{any_two}
use Rattle.facts.proofs.ViewFacts.{view_clear}
use Rattle.facts.proofs.ImageFacts.{AcceptedImage}
use Rattle.facts.proofs.PatchFacts.{count-listed}
use Rattle.facts.proofs.Listed.{listed_there, any-listed}
use Rattle.image.specs.Forms.{record_at_of}
use Rattle.image.proofs.Cases.{default_from}
use Rattle.contents.specs.Tests.{record_wrong, class_wrong}
use Rattle.patch.proofs.Parts.{part_class, part_next}

-- The tests of the patch's own records and entries, for n states, k classes and p listed states.
module _ (x : List ℕ) (n k p : ℕ) where
  -- Some record is wrong.
  abbrev pub records_wrong : Bool
  records_wrong = any p (λ i. record_wrong n k (record_at_of x (records_at_of x + 4 * i)))

  -- Some entry's class is.
  abbrev pub classes_wrong : Bool
  classes_wrong = any p (λ i. any (count x i) (class_wrong k (entries_part_of x i)))

  -- Some entry's next state is.
  abbrev pub next_wrong : Bool
  next_wrong = any p (λ i. any (count x i) (λ j. leb n (number16 (entries_part_of x i) (4 * j + 2))))

-- Ground 9 at an entry is the same in two views that have the same classes at the state.
entry_same : (v w : View) (s : ℕ) → v.classes ≡ w.classes → ((j : ℕ) → v.entry_class s j ≡ w.entry_class s j) → (j : ℕ) → entry_class_bad v s j ≡ entry_class_bad w s j
entry_same v w s k e zero = ap₂ (λ (k c : ℕ). leb k c || false) k (e 0)
entry_same v w s k e (suc j) = ap₂ ◌||◌ (ap₂ leb k (e (suc j))) (ap₂ leb (e (suc j)) (e j))

-- None of the grounds 8, 9 and 10 applies to an accepted image.
image_entered : (b : List ℕ) → AcceptedImage b
    → let v = image_view b in
    (any (states b) (record_bad_of v) ≡ false) × (any_entry v (entry_class_bad v) ≡ false) × (any_entry v (λ s j. leb (states b) (v.entry_next s j)) ≡ false)
unfolding view_grounds
image_entered b A =
    let (g₈, (g₉, (g₁₀, _))) = view_clear (image_view b) A.right (image.class_of b) (image.entries b) (image.depth b) (image.worst b) A.stated in
    ((or_both (any (states b) (record_bad_of (image_view b))) _ g₈).0, g₉, g₁₀)

module _ (b x : List ℕ) (A : AcceptedImage b) (up : Rises (state_at_of x) (listed_states x)) (below : (i : ℕ) → i < listed_states x → state_at_of x i < states b) where
  -- The view of both.
  abbrev v : View
  v = patched_view b x

  -- What it has at a listed state.
  class_listed : (i j : ℕ) → i < listed_states x → v.entry_class (state_at_of x i) j ≡ number16 x (entry_at x i j)
  class_listed i j h = rw (listed_there x up i h)

  next-listed : (i j : ℕ) → i < listed_states x → v.entry_next (state_at_of x i) j ≡ number16 x (entry_at x i j + 2)
  next-listed i j h = rw (listed_there x up i h)

  -- Ground 8.
  pub records_own : any (states b) (record_bad_of v) ≡ records_wrong x (states b) (classes b) (listed_states x)
  unfolding record_wrong default count
  records_own = any-listed x up (states b) (record_bad_of v) (λ i. record_wrong (states b) (classes b) (record_at_of x (records_at_of x + 4 * i))) below others own
    where
      others : (s : ℕ) → s < states b → listed_at x s ≡ none → record_bad_of v s ≡ false
      others s h e = rw e (any_at (states b) s (record_bad_of (image_view b)) (image_entered b A).0 h)

      own : (i : ℕ) → i < listed_states x → record_bad_of v (state_at_of x i) ≡ record_wrong (states b) (classes b) (record_at_of x (records_at_of x + 4 * i))
      own i h = rw (listed_there x up i h, default_from (number16 x (records_at_of x + 4 * i)))

  -- Ground 9.
  pub classes-own : any_entry v (entry_class_bad v) ≡ classes_wrong x (states b) (classes b) (listed_states x)
  classes-own = any-listed x up (states b) (λ s. any (v.count s) (entry_class_bad v s)) (λ i. any (count x i) (class_wrong (classes b) (entries_part_of x i))) below others own
    where
      others : (s : ℕ) → s < states b → listed_at x s ≡ none → any (v.count s) (entry_class_bad v s) ≡ false
      others s h e =
          any_none (v.count s) (entry_class_bad v s)
          (λ j l. entry_same v (image_view b) s refl (λ j. rw e) j ∙ any_two (states b) s j (image.count b) (entry_class_bad (image_view b)) (image_entered b A).1 h (rw e at l))

      entry : (i j : ℕ) → i < listed_states x → j < count x i → entry_class_bad v (state_at_of x i) j ≡ class_wrong (classes b) (entries_part_of x i) j
      entry i zero h l = ap (λ (c : ℕ). leb (classes b) c || false) (class_listed i 0 h ∙ sym (part_class x i 0 l))
      entry i (suc j) h l =
          let before : j < count x i = omega arith in
          let here = class_listed i (suc j) h ∙ sym (part_class x i (suc j) l) in
          ap₂ ◌||◌ (ap (leb (classes b)) here) (ap₂ leb here (class_listed i j h ∙ sym (part_class x i j before)))

      own : (i : ℕ) → i < listed_states x → any (v.count (state_at_of x i)) (entry_class_bad v (state_at_of x i)) ≡ any (count x i) (class_wrong (classes b) (entries_part_of x i))
      own i h =
          ap (λ (m : ℕ). any m (entry_class_bad v (state_at_of x i))) (count-listed b x up i h)
          ∙ any_same (count x i) (entry_class_bad v (state_at_of x i)) (class_wrong (classes b) (entries_part_of x i)) (λ j l. entry i j h l)

  -- Ground 10.
  pub next-own : any_entry v (λ s j. leb (states b) (v.entry_next s j)) ≡ next_wrong x (states b) (classes b) (listed_states x)
  next-own = any-listed x up (states b) (λ s. any (v.count s) (high s)) (λ i. any (count x i) (own_high i)) below others own
    where
      high : ℕ → ℕ → Bool
      high s j = leb (states b) (v.entry_next s j)

      own_high : ℕ → ℕ → Bool
      own_high i j = leb (states b) (number16 (entries_part_of x i) (4 * j + 2))

      others : (s : ℕ) → s < states b → listed_at x s ≡ none → any (v.count s) (high s) ≡ false
      others s h e =
          any_none (v.count s) (high s) (λ j l. ap (leb (states b)) (rw e) ∙ any_two (states b) s j (image.count b) (λ s j. leb (states b) ((image_view b).entry_next s j)) (image_entered b A).2 h (rw e at l))

      own : (i : ℕ) → i < listed_states x → any (v.count (state_at_of x i)) (high (state_at_of x i)) ≡ any (count x i) (own_high i)
      own i h =
          ap (λ (m : ℕ). any m (high (state_at_of x i))) (count-listed b x up i h)
          ∙ any_same (count x i) (high (state_at_of x i)) (own_high i) (λ j l. ap (leb (states b)) (next-listed i j h ∙ sym (part_next x i j l)))
