-- The states left, word by word: they say what the old states said, and no two say the same.
use mathlib.Core.Path.{◌≡◌, refl, sym, ap, ◌∙◌}
use mathlib.Core.Bool.{true}
use mathlib.Core.List.{List, [], ◌∷◌}
use mathlib.Core.Option.{Option}
use Prim.Native.Nat.{ℕ, ◌<◌}
use Rattle.paper.specs.Table.{states, classes, labels, next}
use Rattle.paper.specs.Reduce.{reached}
use Rattle.paper.specs.Walk.{state_after}
use Rattle.reduction.proofs.Words.{Word, SameEnds}
use Rattle.reduction.proofs.Alike.{ends-alike}
use Rattle.reduction.proofs.Blocks.{Closed, alike_block}
use Rattle.reduction.proofs.Stable.{word_reached}
use Rattle.reduction.specs.Left.{new, old, left, new_labels, new_next}
use Rattle.reduction.proofs.Renumbered.{new-labels, new-next, old-reached, old_block, new-old}

module _ (t : List ℕ) (level : List (Option ℕ)) (C : Closed t level) where
  -- A word leads from a new number to the new number of the state to which it leads.
  pub new-walk : (x : ℕ) (w : List ℕ) → Word (classes t) w → reached t level x ≡ true → state_after (new_next t level) (new t level x) w ≡ new t level (state_after (next t) x w)
  new-walk x [] a e = refl
  new-walk x (c ∷ w) (h, a) e =
      ap (λ (y : ℕ). state_after (new_next t level) y w) (new-next t level C x c h e) ∙ new-walk (next t x c) w a (C.step x c h e)

  -- So every word ends in the same labels.
  pub new-ends : (x : ℕ) (w : List ℕ) → Word (classes t) w → reached t level x ≡ true
      → new_labels t level (state_after (new_next t level) (new t level x) w) ≡ labels t (state_after (next t) x w)
  new-ends x w a e = ap (new_labels t level) (new-walk x w a e) ∙ new-labels t level C (state_after (next t) x w) (word_reached t level C x w a e)

  -- From a state left every word ends in the labels that it ends in from its old state.
  pub old-ends : (s : ℕ) (w : List ℕ) → Word (classes t) w → s < left t level
      → new_labels t level (state_after (new_next t level) s w) ≡ labels t (state_after (next t) (old t level s) w)
  old-ends s w a h =
      ap (λ (y : ℕ). new_labels t level (state_after (new_next t level) y w)) (sym (new-old t level C s h)) ∙ new-ends (old t level s) w a (old-reached t level C s h)

  -- States left that no word of at most n classes tells apart are one.
  pub left_apart : (p q : ℕ) → p < left t level → q < left t level
      → SameEnds (classes t) (new_next t level) (new_next t level) (new_labels t level) (new_labels t level) (states t) p q → p ≡ q
  left_apart p q hp hq e =
      let x = old t level p in
      let y = old t level q in
      let same : SameEnds (classes t) (next t) (next t) (labels t) (labels t) (states t) x y =
      λ w l a. sym (old-ends p w a hp) ∙ e w l a ∙ old-ends q w a hq in
      let b = alike_block t level C (states t) x y (old-reached t level C p hp) (old-reached t level C q hq) (ends-alike (classes t) (next t) (labels t) (states t) x y same) in
      sym (new-old t level C p hp) ∙ ap (new t level) (sym (old_block t level C p hp) ∙ b ∙ old_block t level C q hq) ∙ new-old t level C q hq
