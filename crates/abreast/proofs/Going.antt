-- The two classes, state after state: the rows of the states passed keep what their chains give, and the entries of the next two classes wait there; those of the others wait as they did.
use mathlib.Core.Path.{◌≡◌, refl, sym, ap, subst, ◌∙◌}
use mathlib.Core.Logic.{◌⊎◌, inl, inr}
use mathlib.Core.Bool.{true}
use mathlib.Core.Option.{none, some}
use mathlib.Core.List.{List}
use Prim.Native.Nat.{ℕ, ◌+◌, ◌*◌, ◌≤◌, ◌<◌}
use native.Mathlib.Decide.{ℕ_discrete, dec_lt}
use native.Mathlib.Omega.{arith}
use lib.ListN.{get_or}
use Rattle.paper.specs.View.{View, any_entry, same_as_default}
use Rattle.abreast.specs.Laid.{head_class_of, Waits, Kept}
use Rattle.abreast.specs.Turned.{Turned, Long}
use Rattle.abreast.specs.Keeps.{Fits, Ordered, Above, StandsIn, RowKeeps, Needed, Bottom, Across}
use Rattle.abreast.proofs.Keeping.{Falls, keeps_later, falls_small}
use Rattle.abreast.proofs.Standing.{stands_waits}
use Rattle.abreast.proofs.Across.{turn_found, turn_needed, turn_keeps, turn_stands}

-- What the turn of a state asks.
abbrev pub TurnAsks : List ℕ → ℕ → ℕ → ℕ → List ℕ → List ℕ → List ℕ → List ℕ → List ℕ → Type 0
TurnAsks b first s from place left wait to hop =
    (s < 512)
    × (from ≤ 512)
    × (first ≤ 256)
    × Waits b (get_or place s 0) first (get_or left s 0)
    × (get_or wait s 0 ≡ head_class_of b (get_or place s 0) (get_or left s 0))
    × (get_or wait s 0 < 65536)
    × Long place left wait to hop
    × ((q : ℕ) → q < 2 → get_or hop (2 * from + q) 0 < 2000)

-- What holds before place i.
pub record Going (v : View) (bytes : ℕ → List ℕ) (n first : ℕ) (order : List ℕ) (i : ℕ) (place left wait to hop : List ℕ) : Type 0 where
  pub within : i ≤ n
  pub long : Long place left wait to hop
  pub bottom : Bottom to hop
  pub rows : (p : ℕ) → p < i → RowKeeps v first to hop i (get_or order p 0)
  pub needed : (p : ℕ) → p < i → Needed v first (get_or order p 0)
  pub passed : (p : ℕ) → p < i → StandsIn v bytes (first + 2) place left wait (get_or order p 0)
  pub waits : (p : ℕ) → i ≤ p → p < n → StandsIn v bytes first place left wait (get_or order p 0)

module _ {v : View} (bytes : ℕ → List ℕ) {n first : ℕ} {order up : List ℕ} (X : Fits v n) (O : Ordered v n order) (U : Above v n up) where
  -- At the start all entries wait.
  pub going_start : {place left wait to hop : List ℕ} → Long place left wait to hop → Bottom to hop → ((s : ℕ) → s < n → StandsIn v bytes first place left wait s)
      → Going v bytes n first order 0 place left wait to hop
  going_start L B S =
      record {
        within = omega arith;
        long = L;
        bottom = B;
        rows = λ p h. absurd (omega arith);
        needed = λ p h. absurd (omega arith);
        passed = λ p h. absurd (omega arith);
        waits = λ p l h. S (get_or order p 0) (O.below p h);
      }

  module _ {i : ℕ} {place left wait to hop : List ℕ} (G : Going v bytes n first order i place left wait to hop) (h : i < n) (s : ℕ) (w : s ≡ get_or order i 0) where
    -- The state at the place is one of the n, and its entries wait.
    pub going_state : (s < n) × StandsIn v bytes first place left wait s
    going_state = rw w (O.below i h, G.waits i (omega arith) h)

    -- The row that it falls from is a row.
    pub going_from : get_or up s 0 ≤ 512
    going_from = go (v.default s) refl
      where
        go : (o : _) → v.default s ≡ o → get_or up s 0 ≤ 512
        go none e = omega (arith, U.root s going_state.0 e)
        go (some d) e =
            let (j, hj, q) = O.after i d h (ap v.default (sym w) ∙ e) in
            omega (arith, U.falls s d going_state.0 e, q, O.below j (omega arith), X.few_states)

    -- What it falls from is what its default keeps, or row 512.
    pub going_falls : (q : ℕ) → q < 2 → Falls v i s (first + q) (get_or to (2 * get_or up s 0 + q) 0) (get_or hop (2 * get_or up s 0 + q) 0)
    going_falls q l =
        record {
          root = λ e. let r : 2 * get_or up s 0 + q ≡ 1024 + q = omega (arith, U.root s going_state.0 e) in rw r (G.bottom q l);
          default = λ d e.
              let (j, hj, u) = O.after i d h (ap v.default (sym w) ∙ e) in
              rw (U.falls s d going_state.0 e) (subst (λ (x : ℕ). RowKeeps v first to hop i x) u (G.rows j hj) q l);
        }

    -- What the turn of the state asks holds.
    pub going_asks : first ≤ 256 → TurnAsks (bytes s) first s (get_or up s 0) place left wait to hop
    going_asks few =
        let (hs, S) = going_state in (
          omega (arith, hs, X.few_states),
          going_from,
          few,
          stands_waits (X.rises s hs) S,
          S.class_is,
          S.class_small,
          G.long,
          λ q l. falls_small v (going_falls q l) (omega (arith, X.few_states)),
        )

    -- An entry of the two classes that the row above keeps is needless.
    pub going_found : Kept (bytes s) (get_or place s 0) first (2 * get_or up s 0) to (get_or left s 0) → any_entry v (same_as_default v) ≡ true
    going_found = let (hs, S) = going_state in turn_found X (bytes s) first i s (get_or up s 0) place left wait to hop hs G.within S going_falls

    module _ {place' left' wait' to' hop' : List ℕ} (T : Turned (bytes s) first s (get_or up s 0) place left to hop wait place' left' wait' to' hop') (L : Long place' left' wait' to' hop') where
      -- Another place holds another state.
      other : (p : ℕ) → p < n → ¬ (p ≡ i) → ¬ (get_or order p 0 ≡ s)
      other p l u e = u (O.once p i l h (e ∙ w))

      -- Cells of other rows are outside this one.
      outside : (x q : ℕ) → q < 2 → ¬ (x ≡ s) → (2 * x + q < 2 * s) ⊎ (2 * s + 2 ≤ 2 * x + q)
      outside x q l u = go (dec_lt x s)
        where
          go : Dec (x < s) → (2 * x + q < 2 * s) ⊎ (2 * s + 2 ≤ 2 * x + q)
          go (yes k) = inl (omega arith)
          go (no k) = inr (omega arith)

      -- The entries of another state wait as they did.
      stands_other : (c x : ℕ) → ¬ (x ≡ s) → StandsIn v bytes c place left wait x → StandsIn v bytes c place' left' wait' x
      stands_other c x u S = rw (T.place_others x u, T.left_others x u, T.wait_others x u) S

      -- One state more.
      pub going_more : Going v bytes n first order (i + 1) place' left' wait' to' hop'
      going_more =
          let (hs, S) = going_state in
          record {
            within = omega arith;
            long = L;
            bottom = λ q l. let far : (1024 + q < 2 * s) ⊎ (2 * s + 2 ≤ 1024 + q) = inr (omega (arith, hs, X.few_states)) in rw (T.to_elsewhere (1024 + q) far, T.hop_elsewhere (1024 + q) far) (G.bottom q l);
            rows = λ p l. row p l (ℕ_discrete p i);
            needed = λ p l. need p l (ℕ_discrete p i);
            passed = λ p l. pass p l (ℕ_discrete p i);
            waits = λ p l u. stands_other first (get_or order p 0) (other p u (λ e. absurd (omega arith))) (G.waits p (omega arith) u);
          }
        where
          row : (p : ℕ) → p < i + 1 → Dec (p ≡ i) → RowKeeps v first to' hop' (i + 1) (get_or order p 0)
          row p l (yes e) = let (hs, S) = going_state in rw (e, ← w) (turn_keeps X (bytes s) first i s (get_or up s 0) place left wait to hop hs G.within S going_falls T)
          row p l (no e) = λ q u.
              let x = get_or order p 0 in
              let free = outside x q u (other p (omega arith) e) in
              rw (T.to_elsewhere (2 * x + q) free, T.hop_elsewhere (2 * x + q) free) (keeps_later v i x (first + q) (get_or to (2 * x + q) 0) (get_or hop (2 * x + q) 0) (G.rows p (omega arith) q u))

          need : (p : ℕ) → p < i + 1 → Dec (p ≡ i) → Needed v first (get_or order p 0)
          need p l (yes e) = let (hs, S) = going_state in rw (e, ← w) (turn_needed X (bytes s) first i s (get_or up s 0) place left wait to hop hs G.within S going_falls T)
          need p l (no e) = G.needed p (omega arith)

          pass : (p : ℕ) → p < i + 1 → Dec (p ≡ i) → StandsIn v bytes (first + 2) place' left' wait' (get_or order p 0)
          pass p l (yes e) = let (hs, S) = going_state in rw (e, ← w) (turn_stands X (bytes s) first i s (get_or up s 0) place left wait to hop hs G.within S going_falls T)
          pass p l (no e) = stands_other (first + 2) (get_or order p 0) (other p (omega arith) e) (G.passed p (omega arith))

  -- At the end all states are passed.
  pub going_done : {i : ℕ} {place left wait to hop : List ℕ} → Going v bytes n first order i place left wait to hop → n ≤ i → Across v bytes n first place left wait to hop
  going_done {i} {place} {left} {wait} {to} {hop} G h =
      record {
        long = G.long;
        bottom = G.bottom;
        rows = λ s l. let (p, hp, e) = O.stands s l in let all : i ≡ n = omega (arith, G.within) in
            subst (λ (x : ℕ). RowKeeps v first to hop n x) e (subst (λ (m : ℕ). RowKeeps v first to hop m (get_or order p 0)) all (G.rows p (omega arith)));
        needed = λ s l. let (p, hp, e) = O.stands s l in subst (λ (x : ℕ). Needed v first x) e (G.needed p (omega arith));
        stands = λ s l. let (p, hp, e) = O.stands s l in subst (λ (x : ℕ). StandsIn v bytes (first + 2) place left wait x) e (G.passed p (omega arith));
      }
