-- One class is taken from all states, one state after the other.
use mathlib.Core.Path.{◌≡◌, ◌∙◌}
use mathlib.Core.List.{List}
use Prim.Native.Nat.{ℕ, ◌+◌, ◌≤◌, ◌<◌}
use native.Mathlib.Decide.{ℕ_discrete}
use native.Mathlib.Omega.{arith}
use lib.ListN.{length, get_or, set, length-set}
use lib.Seq.{get_or-set_same, get_or-set_other}
use Rattle.paper.specs.Image.{image_view}
use Rattle.chains.specs.Sweeps.{Stores}
use Rattle.sweep.specs.Cursors.{CursorsFrom, Cursors}
use Rattle.sweep.proofs.Places.{Taken}

-- The states before s are taken; the cursors of the others still stand before the class.
pub record Taking (b : List ℕ) (n c s : ℕ) (cursor own : List ℕ) : Type 0 where
  pub within : s ≤ n
  pub cursor_long : length cursor ≡ 513
  pub own_long : length own ≡ 512
  pub taken : (q : ℕ) → q < s → Taken b c q (get_or own q 0) (get_or cursor q 0)
  pub left : CursorsFrom b c s n cursor

module _ {b : List ℕ} {n c : ℕ} where
  -- At the start none is.
  pub taking_start : (cursor own : List ℕ) → length cursor ≡ 513 → length own ≡ 512 → Cursors b c n cursor → Taking b n c 0 cursor own
  taking_start cursor own lc lo C =
      record { within = omega arith; cursor_long = lc; own_long = lo; taken = λ q h. absurd (omega arith); left = λ q _ h. C q h }

  module _ {s : ℕ} {cursor own : List ℕ} (T : Taking b n c s cursor own) where
    -- One state more.
    pub taking_more : n ≤ 512 → s < n → (t at : ℕ) → Taken b c s t at → Taking b n c (s + 1) (set cursor s at) (set own s t)
    taking_more few h t at K =
        record {
          within = omega arith;
          cursor_long = length-set cursor s at ∙ T.cursor_long;
          own_long = length-set own s t ∙ T.own_long;
          taken = λ q l. go q l (ℕ_discrete q s);
          left = λ q l hq. rw (get_or-set_other cursor s q at 0 (λ e. absurd (omega arith))) (T.left q (omega arith) hq);
        }
      where
        go : (q : ℕ) → q < s + 1 → Dec (q ≡ s) → Taken b c q (get_or (set own s t) q 0) (get_or (set cursor s at) q 0)
        go q l (yes e) =
            rw (e, get_or-set_same own s t 0 (omega (arith, T.own_long)), get_or-set_same cursor s at 0 (omega (arith, T.cursor_long))) K
        go q l (no e) = rw (get_or-set_other own s q t 0 e, get_or-set_other cursor s q at 0 e) (T.taken q (omega arith))

    -- At the end all are.
    pub taking_done : n ≤ s → Stores (image_view b) c n own × Cursors b (c + 1) n cursor
    taking_done h = (λ q l. (T.taken q (omega arith)).stores, λ q l. (T.taken q (omega arith)).stands)
