-- The states of a climb set down from back to front behind those that stand already, each with its place.
use mathlib.Core.Path.{◌≡◌, refl, ap, ◌∙◌}
use mathlib.Core.Logic.{◌⊎◌, inl, inr}
use mathlib.Core.List.{List}
use Prim.Native.Nat.{ℕ, ◌+◌, ◌-◌, ◌<◌}
use native.Mathlib.Decide.{ℕ_discrete}
use native.Mathlib.Nat.{not-suc-le-zero}
use native.Mathlib.Omega.{arith}
use lib.ListN.{length, get_or, set, length-set}
use lib.Seq.{get_or-set_same, get_or-set_other}
use Rattle.chains.specs.Orders.{defaults_view}
use Rattle.chains.specs.Places.{along, Ready}
use Rattle.chains.proofs.Room.{along_below, along-next, along_apart, climbed_room}

-- The first i states of the climb are set down, each at its place counted from the back, and nothing else is changed.
pub record Marked (n : ℕ) (def order₀ place₀ : List ℕ) (filled s count : ℕ) (order place : List ℕ) (i : ℕ) : Type 0 where
  pub order_long : length order ≡ 512
  pub place_long : length place ≡ 512
  pub before : (m : ℕ) → m < filled → get_or order m 0 ≡ get_or order₀ m 0
  pub set_down_lem : (k : ℕ) → k < i → get_or order (filled + count - 1 - k) 0 ≡ along (defaults_view n def) s k
  pub marked : (k : ℕ) → k < i → get_or place (along (defaults_view n def) s k) 0 ≡ filled + count - 1 - k
  pub either : (q : ℕ) → ((k : ℕ) × (k < i) × (q ≡ along (defaults_view n def) s k)) ⊎ (get_or place q 0 ≡ get_or place₀ q 0)

-- The next state to set down, if there is one, is at hand.
abbrev pub AtHand : ℕ → List ℕ → ℕ → ℕ → ℕ → ℕ → Type 0
AtHand n def s count i x = i < count → (x ≡ along (defaults_view n def) s i) × (x < n)

module _ {n : ℕ} {def order₀ place₀ : List ℕ} {filled s count : ℕ} (R : Ready n def order₀ place₀ filled s count) where
  -- At first none is.
  pub marks_none : Marked n def order₀ place₀ filled s count order₀ place₀ 0
  marks_none =
      record {
        order_long = R.laid.order_long;
        place_long = R.laid.place_long;
        before = λ m h. refl;
        set_down_lem = λ k h. absurd (not-suc-le-zero h);
        marked = λ k h. absurd (not-suc-le-zero h);
        either = λ q. inr refl;
      }

  -- The next state of the climb is set down at the next place towards the front.
  pub marks_more : (order place : List ℕ) (i at x : ℕ) → i < count → at ≡ filled + count - 1 - i → x ≡ along (defaults_view n def) s i
      → Marked n def order₀ place₀ filled s count order place i → Marked n def order₀ place₀ filled s count (set order at x) (set place x at) (i + 1)
  marks_more order place i at x h a e M =
      record {
        order_long = length-set order at x ∙ M.order_long;
        place_long = length-set place x at ∙ M.place_long;
        before = λ m l. get_or-set_other order at m x 0 (λ q. omega arith) ∙ M.before m l;
        set_down_lem = λ k l. down k l (ℕ_discrete k i);
        marked = λ k l. mark k l (ℕ_discrete k i);
        either = λ q. which q (ℕ_discrete q x) (M.either q);
      }
    where
      down : (k : ℕ) → k < i + 1 → Dec (k ≡ i) → get_or (set order at x) (filled + count - 1 - k) 0 ≡ along (defaults_view n def) s k
      down k l (yes q) =
          rw (q, ← a, ← e) (get_or-set_same order at x 0 (omega (arith, M.order_long, R.few, climbed_room R)))
      down k l (no q) = get_or-set_other order at (filled + count - 1 - k) x 0 (λ w. q (omega arith)) ∙ M.set_down_lem k (omega arith)

      mark : (k : ℕ) → k < i + 1 → Dec (k ≡ i) → get_or (set place x at) (along (defaults_view n def) s k) 0 ≡ filled + count - 1 - k
      mark k l (yes q) =
          rw (q, ← a, ← e) (get_or-set_same place x at 0 (omega (arith, M.place_long, R.few, along_below R i h)))
      mark k l (no q) =
          get_or-set_other place x (along (defaults_view n def) s k) at 0
          (λ w. q (along_apart R k i (omega arith) h (w ∙ e)))
          ∙ M.marked k (omega arith)

      which : (q : ℕ) → Dec (q ≡ x) → ((k : ℕ) × (k < i) × (q ≡ along (defaults_view n def) s k)) ⊎ (get_or place q 0 ≡ get_or place₀ q 0)
          → ((k : ℕ) × (k < i + 1) × (q ≡ along (defaults_view n def) s k)) ⊎ (get_or (set place x at) q 0 ≡ get_or place₀ q 0)
      which q (yes w) m = inl (i, omega arith, w ∙ e)
      which q (no w) (inl (k, l, u)) = inl (k, omega arith, u)
      which q (no w) (inr u) = inr (get_or-set_other place x q at 0 w ∙ u)

  -- The default of the state set down is the next.
  pub at_hand_next : (i x d : ℕ) → i < count → AtHand n def s count i x → d ≡ get_or def x 0 → AtHand n def s count (i + 1) d
  at_hand_next i x d h A e l =
      let w : d ≡ along (defaults_view n def) s (i + 1) = e ∙ ap (λ (y : ℕ). get_or def y 0) (A h).0 ∙ along-next R i l in
      (w, omega (arith, along_below R (i + 1) l))
