-- No machine that says from its start what the table says from its start has fewer states than are left.
use mathlib.Core.Path.{◌≡◌, refl, sym, ap, ◌∙◌}
use mathlib.Core.Bool.{true}
use mathlib.Core.List.{List, [], ◌++◌}
use mathlib.Core.Option.{Option}
use Prim.Native.Nat.{ℕ, ◌+◌, ◌≤◌, ◌<◌}
use native.Mathlib.Decide.{dec_lt}
use native.Mathlib.Omega.{arith}
use lib.ListN.{length, length-append}
use Rattle.paper.specs.Table.{states, classes, start, labels, next}
use Rattle.paper.specs.Reduce.{reached}
use Rattle.paper.proofs.Counts.{pigeonhole}
use Rattle.paper.specs.Walk.{state_after}
use Rattle.paper.proofs.Walk.{state_append}
use Rattle.reduction.proofs.Words.{Word, word_append, word_below, SameEnds}
use Rattle.reduction.proofs.Reach.{Led}
use Rattle.reduction.proofs.Blocks.{Closed}
use Rattle.reduction.specs.Left.{old, left, new_labels, new_next}
use Rattle.reduction.proofs.Renumbered.{old-reached}
use Rattle.reduction.proofs.Merged.{old-ends, left_apart}

module _ (t : List ℕ) (level : List (Option ℕ)) (C : Closed t level) (reach : (x : ℕ) → reached t level x ≡ true → Led t (states t) x) where
  -- A word from the start to the old state of s, where s is left.
  pick : (s : ℕ) → Dec (s < left t level) → List ℕ
  pick s (yes h) = (reach (old t level s) (old-reached t level C s h)).word
  pick s (no h) = []

  -- Its classes are below k.
  pick_classed : (s : ℕ) (d : Dec (s < left t level)) → Word (classes t) (pick s d)
  unfolding pick
  pick_classed s (yes h) = (reach (old t level s) (old-reached t level C s h)).classed_is
  pick_classed s (no h) = refl

  -- It has at most n classes.
  pick_short : (s : ℕ) (d : Dec (s < left t level)) → length (pick s d) ≤ states t
  unfolding pick
  pick_short s (yes h) = (reach (old t level s) (old-reached t level C s h)).short
  pick_short s (no h) = omega arith

  -- It leads from the start to the old state.
  pick_leads : (s : ℕ) (d : Dec (s < left t level)) → s < left t level → state_after (next t) (start t) (pick s d) ≡ old t level s
  unfolding pick
  pick_leads s (yes h) l = (reach (old t level s) (old-reached t level C s h)).leads
  pick_leads s (no h) l = absurd (h l)

  -- The word of a state left.
  word : ℕ → List ℕ
  word s = pick s (dec_lt s (left t level))

  -- Another machine: m states, its next states, labels and start; every word of at most 2n classes ends there in the labels in which it ends in the table.
  module _ (m : ℕ) (U : ℕ → ℕ → ℕ) (mark : ℕ → List ℕ) (u : ℕ) (e : SameEnds (classes t) U (next t) mark (labels t) (states t + states t) u (start t)) where
    -- From where the word of s leads in it, words end as they end from s.
    half : (s : ℕ) → s < left t level → (w : List ℕ) → length w ≤ states t → Word (classes t) w
        → new_labels t level (state_after (new_next t level) s w) ≡ mark (state_after U (state_after U u (word s)) w)
    unfolding word
    half s h w l a =
        let d = dec_lt s (left t level) in
        old-ends t level C s w a h
        ∙ ap (λ (x : ℕ). labels t (state_after (next t) x w)) (sym (pick_leads s d h))
        ∙ ap (labels t) (sym (state_append (next t) (word s) w (start t)))
        ∙ sym (e (word s ++ w) (omega (arith, pick_short s d, length-append (word s) w)) (word_append (classes t) (word s) w (pick_classed s d) a))
        ∙ ap mark (state_append U (word s) w u)

    -- It has at least as many states as are left.
    pub left_fewest : u < m → ((s c : ℕ) → s < m → c < classes t → U s c < m) → left t level ≤ m
    unfolding word
    left_fewest hu inside =
        pigeonhole (left t level) m (λ s. state_after U u (word s))
        (λ s h. word_below U m (classes t) inside u (word s) hu (pick_classed s (dec_lt s (left t level))))
        (λ p q hp hq z. left_apart t level C p q hp hq (λ w l a. half p hp w l a ∙ ap (λ (x : ℕ). mark (state_after U x w)) z ∙ sym (half q hq w l a)))
