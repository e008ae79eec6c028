-- The entries of a state: what is stored stands in one, and those of rising classes are each stored.
use mathlib.Core.Path.{◌≡◌, refl, sym, ap, ◌∙◌}
use mathlib.Core.Bool.{Bool, true, false, not}
use mathlib.Core.Option.{Option, none, some}
use Prim.Native.Nat.{ℕ, ◌<◌}
use lib.Dec.{eqb}
use borrow.Author.Tests.{eqb-true, eq-eqb}
use Rattle.paper.specs.Below.{how_many_of, when, given}
use Rattle.paper.specs.View.{View, stored}
use Rattle.paper.proofs.Below.{first_of_some, first_of_empty}
use Rattle.paper.proofs.Tests.{given_some, none≢some}
use Rattle.paper.proofs.Counts.{all_counted}
use Rattle.paper.proofs.Rising.{Rises, Row, rank, rank_all}
use Rattle.paper.proofs.Chain.{some_same}

-- A value that a test lets through.
pub when_some : (b : Bool) (x a : ℕ) → when b x ≡ some a → (b ≡ true) × (x ≡ a)
when_some true x a e = (refl, some_same e)
when_some false x a e = absurd (none≢some none a refl e)

module _ (v : View) where
  -- A state stores a class.
  abbrev pub has : ℕ → ℕ → Bool
  has s c = given (stored v s c)

  -- What is stored stands in an entry.
  pub stored_entry : (s c x : ℕ) → stored v s c ≡ some x → (j : ℕ) × (j < v.count s) × (v.entry_class s j ≡ c) × (v.entry_next s j ≡ x)
  unfolding stored
  stored_entry s c x e =
      let (j, hj, w) = first_of_some (λ j. when (eqb (v.entry_class s j) c) (v.entry_next s j)) (v.count s) x e in
      let (t, u) = when_some (eqb (v.entry_class s j) c) (v.entry_next s j) x w in
      (j, hj, eqb-true (v.entry_class s j) c t, u)

  -- The class of an entry is stored.
  entry_has : (s j : ℕ) → j < v.count s → has s (v.entry_class s j) ≡ true
  unfolding stored
  entry_has s j h = go (stored v s (v.entry_class s j)) refl
    where
      go : (o : Option ℕ) → stored v s (v.entry_class s j) ≡ o → given o ≡ true
      go (some x) q = refl
      go none q =
          let w = first_of_empty (λ i. when (eqb (v.entry_class s i) (v.entry_class s j)) (v.entry_next s i)) (v.count s) j q h in
          absurd (none≢some none (v.entry_next s j) refl (sym w ∙ rw (eq-eqb (v.entry_class s j) (v.entry_class s j) refl)))

  -- A class that is stored has a next state.
  pub has_some : (s c : ℕ) → has s c ≡ true → (x : ℕ) × (stored v s c ≡ some x)
  has_some s c e = given_some (stored v s c) (ap not e)

  module _ (s : ℕ) (up : Rises (v.entry_class s) (v.count s)) where
    -- The classes of rising entries are the row of the classes that are stored.
    pub entries-row : Row (v.entry_class s) (v.count s) (has s)
    entries-row =
        record {
          up = up;
          hit = entry_has s;
          only = λ c e. let (x, q) = has_some s c e in let (j, hj, w, _) = stored_entry s c x q in (j, hj, w);
        }

    -- Of rising entries each is stored.
    pub entry_stored : (j : ℕ) → j < v.count s → stored v s (v.entry_class s j) ≡ some (v.entry_next s j)
    entry_stored j h =
        let (x, q) = has_some s (v.entry_class s j) (entry_has s j h) in
        let (i, hi, ec, en) = stored_entry s (v.entry_class s j) x q in
        let place = rank (v.entry_class s) (v.count s) (has s) entries-row in
        let w : i ≡ j = sym (place i hi) ∙ ap (λ (c : ℕ). how_many_of c (has s)) ec ∙ place j h in
        q ∙ ap {B = Option ℕ} some (sym en ∙ ap (v.entry_next s) w)

    module _ (below : (j : ℕ) → j < v.count s → v.entry_class s j < v.classes) where
      -- A state has as many rising entries below k as classes that it stores.
      pub entries_counted : how_many_of v.classes (has s) ≡ v.count s
      entries_counted = rank_all (v.entry_class s) (v.count s) (has s) entries-row v.classes below

      -- With k of them it stores every class.
      pub full_stores : v.count s ≡ v.classes → (c : ℕ) → c < v.classes → (x : ℕ) × (stored v s c ≡ some x)
      full_stores e c hc = has_some s c (all_counted v.classes c (has s) (entries_counted ∙ e) hc)
