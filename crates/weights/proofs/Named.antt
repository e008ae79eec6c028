-- The weights of pairs set down one after the other, each at its own place.
use mathlib.Core.Path.{◌≡◌, refl, sym, ◌∙◌}
use mathlib.Core.List.{List}
use Prim.Native.Nat.{ℕ, ◌+◌, ◌*◌, ◌≤◌, ◌<◌}
use native.Mathlib.Decide.{ℕ_discrete, dec_lt}
use native.Mathlib.Omega.{arith}
use lib.ListN.{length, get_or, set, replicate, get_or-replicate}
use lib.Seq.{get_or-set_same, get_or-set_other}
use Rattle.weights.specs.Named.{Named}

module _ (weight : ℕ → ℕ → ℕ) (n : ℕ) (few : n ≤ 512) where
  -- At the start no pair's weight stands there.
  pub named_starts : Named weight n (0 * 512) (replicate 256 0)
  named_starts = record { stands = λ u v uv vb l. absurd (omega arith); own = λ c h ne. absurd (ne (get_or-replicate 256 c 0 0 h)) }

  module _ (marks : List ℕ) (u : ℕ) where
    -- No pair stands between the beginning of a first state's places and the pair with the state after it.
    pub named_skips : Named weight n (u * 512) marks → Named weight n (u * 512 + (u + 1)) marks
    named_skips N =
        record {
          stands = λ x y xy yb l. N.stands x y xy yb (elim (dec_lt x u) [ yes h ↦ omega arith | no h ↦ absurd (omega arith) ]);
          own = N.own;
        }

    -- No pair stands between the last of a first state's and the next first state's places.
    pub named_ends : Named weight n (u * 512 + n) marks → Named weight n ((u + 1) * 512) marks
    named_ends N =
        record {
          stands = λ x y xy yb l. N.stands x y xy yb (elim (dec_lt x u) [ yes h ↦ omega arith | no h ↦ omega arith ]);
          own = N.own;
        }

    -- The next pair's weight is set down.
    pub named_more : (v w : ℕ) → v < n → length marks ≡ 256 → w ≡ weight u v → w < 256 → Named weight n (u * 512 + v) marks
        → Named weight n (u * 512 + (v + 1)) (set marks w w)
    named_more v w vb long e small N =
        record {
          stands = λ x y xy yb l. stands x y xy yb l (ℕ_discrete (weight x y) w);
          own = λ c h. own c h (ℕ_discrete c w);
        }
      where
        before : (x y : ℕ) → y < n → x * 512 + y < u * 512 + (v + 1) → ¬ (weight x y ≡ w) → Dec (x * 512 + y ≡ u * 512 + v) → x * 512 + y < u * 512 + v
        before x y yb l q (yes z) =
            let xu : x ≡ u = omega arith in
            let yv : y ≡ v = omega arith in
            absurd (q (rw (xu, yv) (sym e)))
        before x y yb l q (no z) = omega arith

        stands : (x y : ℕ) → x < y → y < n → x * 512 + y < u * 512 + (v + 1) → Dec (weight x y ≡ w) → get_or (set marks w w) (weight x y) 0 ≡ weight x y
        stands x y xy yb l (yes q) = rw (q, get_or-set_same marks w w 0 (omega arith)) refl
        stands x y xy yb l (no q) =
            get_or-set_other marks w (weight x y) w 0 q ∙ N.stands x y xy yb (before x y yb l q (ℕ_discrete (x * 512 + y) (u * 512 + v)))

        own : (c : ℕ) → c < 256 → Dec (c ≡ w) → ¬ (get_or (set marks w w) c 0 ≡ 0) → get_or (set marks w w) c 0 ≡ c
        own c h (yes q) ne = rw (q, get_or-set_same marks w w 0 (omega arith)) refl
        own c h (no q) ne = get_or-set_other marks w c w 0 q ∙ N.own c h (λ z. ne (get_or-set_other marks w c w 0 q ∙ z))

-- Marks of one weight are those of another that is the same for all pairs.
pub named_same : (f g : ℕ → ℕ → ℕ) (n end : ℕ) (marks : List ℕ) → ((u v : ℕ) → u < v → v < n → u * 512 + v < end → f u v ≡ g u v) → Named f n end marks → Named g n end marks
named_same f g n end marks same N = record { stands = λ u v uv vb l. rw (← same u v uv vb l) (N.stands u v uv vb l); own = N.own }
