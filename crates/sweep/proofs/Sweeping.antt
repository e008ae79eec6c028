-- The sweep over the classes of a view, two at a time: none of those passed is needless anywhere, and the largest hops of them are known.
use mathlib.Core.Path.{◌≡◌, sym, ◌∙◌}
use mathlib.Core.Bool.{false}
use mathlib.Core.List.{List}
use Prim.Native.Nat.{ℕ, ◌+◌, ◌*◌, ◌≤◌, ◌<◌, max}
use native.Mathlib.Decide.{dec_lt}
use native.Mathlib.Omega.{arith}
use lib.ListN.{get_or}
use Rattle.paper.specs.Below.{any, largest}
use Rattle.paper.specs.View.{View, worst_hops, any_entry, same_as_default}
use Rattle.paper.proofs.Below.{any_none}
use Rattle.facts.proofs.TableFacts.{Classed}
use Rattle.facts.proofs.EntryFacts.{Entered}
use Rattle.chains.specs.Orders.{ParentFirst}
use Rattle.chains.specs.Sweeps.{Falls}
use Rattle.chains.proofs.Far.{Far, far_none, far_worst}
use Rattle.abreast.specs.Turned.{Long}
use Rattle.abreast.specs.Keeps.{Fits, Ordered, StandsIn, Bottom, Across}
use Rattle.sweep.proofs.Far.{far_two}

-- What holds before the two classes from `first` on.
pub record Sweeping (v : View) (bytes : ℕ → List ℕ) (n first : ℕ) (place left wait to hop : List ℕ) (most : ℕ) : Type 0 where
  pub within : first < v.classes + 2
  pub long : Long place left wait to hop
  pub bottom : Bottom to hop
  pub stands : (s : ℕ) → s < n → StandsIn v bytes first place left wait s
  pub needed : (s j : ℕ) → s < n → j < v.count s → v.entry_class s j < first → same_as_default v s j ≡ false
  pub far : Far v n v.classes 1024 first most
  pub small : most < 65536

-- The rows of a view to which none of the grounds 8, 9 and 10 applies are as the sweep asks.
pub entered_fits : {v : View} {n m : ℕ} → Entered v m → v.states ≡ n → n ≤ 512 → v.classes ≤ 256 → Fits v n
entered_fits E counted few_states few_classes =
    record {
      counted = counted;
      few_states = few_states;
      few_classes = few_classes;
      rises = λ s hs j h. E.rises s j (omega (arith, counted)) h;
      class_below = λ s j hs h. E.class_below s j (omega (arith, counted)) h;
      next_below = λ s j hs h. omega (arith, E.next_below s j (omega (arith, counted)) h, counted);
      full = λ s hs e. E.full s (omega (arith, counted)) e;
    }

-- An order in which each state comes after its default in the list is one for the view that has these defaults.
pub view_ordered : {v : View} {n : ℕ} {def order : List ℕ} → Falls v n def → ParentFirst n def order → Ordered v n order
view_ordered F O =
    record { below = O.below; stands = O.stands; once = O.once; after = λ i d h e. O.after i d h (sym (F.falls _ (O.below i h)) ∙ e) }

module _ {v : View} (bytes : ℕ → List ℕ) {n : ℕ} (X : Fits v n) where
  -- Before the first class all entries wait.
  pub sweeping_start : {place left wait to hop : List ℕ} → Long place left wait to hop → Bottom to hop → ((s : ℕ) → s < n → StandsIn v bytes 0 place left wait s)
      → Sweeping v bytes n 0 place left wait to hop 1024
  sweeping_start L B S =
      record {
        within = omega arith;
        long = L;
        bottom = B;
        stands = S;
        needed = λ s j hs h l. absurd (omega arith);
        far = far_none;
        small = omega arith;
      }

  -- Two classes more.
  pub sweeping_more : {first most : ℕ} {place left wait to hop place' left' wait' to' hop' : List ℕ} → Sweeping v bytes n first place left wait to hop most → first < v.classes
      → Across v bytes n first place' left' wait' to' hop' → (more : ℕ) → more ≡ max most (largest (2 * n) (λ i. get_or hop' i 0)) → more < 65536
      → Sweeping v bytes n (first + 2) place' left' wait' to' hop' more
  sweeping_more {first} {to'} {hop'} W l A more e small =
      record {
        within = omega arith;
        long = A.long;
        bottom = A.bottom;
        stands = A.stands;
        needed = λ s j hs h l. go s j hs h l (dec_lt (v.entry_class s j) first);
        far = far_two X.counted to' hop' X.few_states W.far A.rows more e;
        small = small;
      }
    where
      go : (s j : ℕ) → s < n → j < v.count s → v.entry_class s j < first + 2 → Dec (v.entry_class s j < first) → same_as_default v s j ≡ false
      go s j hs h l (yes u) = W.needed s j hs h u
      go s j hs h l (no u) = A.needed s hs j h (omega arith) l

  module _ {first most : ℕ} {place left wait to hop : List ℕ} (W : Sweeping v bytes n first place left wait to hop most) (h : v.classes ≤ first) where
    -- After the last class none is needless anywhere.
    pub sweeping_none : false ≡ any_entry v (same_as_default v)
    sweeping_none =
        sym (any_none v.states (λ s. any (v.count s) (same_as_default v s)) (λ s hs.
        let hn : s < n = omega (arith, X.counted) in
        any_none (v.count s) (same_as_default v s) (λ j hj. W.needed s j hn hj (omega (arith, X.class_below s j hn hj)))))

    -- And the worst is known.
    pub sweeping_worst : (class_of : ℕ → ℕ) → Classed 256 v.classes class_of → most ≡ 1024 + worst_hops v class_of
    sweeping_worst class_of C = far_worst X.counted W.far h class_of C
