-- The number that is kept for a state: its place in the patch's list, counted from 1, or 0.
use mathlib.Core.Path.{◌≡◌, refl, ◌∙◌}
use mathlib.Core.List.{List}
use mathlib.Core.Option.{Option, none, some}
use Prim.Native.Nat.{ℕ, ◌+◌, ◌<◌}
use lib.ListN.{get_or}
use Rattle.paper.specs.Patch.{listed_states, listed_at}
use Rattle.patch.specs.Listed.{slot_of, Slots}
use Rattle.patch.proofs.Over.{Over, over_none, over_some}

-- Where each listed state has its own number, over zeros, these are the slots.
pub slots_done : {x : List ℕ} {n i : ℕ} {old slots : List ℕ} → Over x (λ i. i + 1) old slots i → i ≡ listed_states x → ((s : ℕ) → s < n → get_or old s 0 ≡ 0) → Slots x n slots
slots_done {x} {n} {i} {old} {slots} O e zeros s h = go (listed_at x s) refl
  where
    go : (o : Option ℕ) → listed_at x s ≡ o → get_or slots s 0 ≡ slot_of o
    go none q = over_none (λ i. i + 1) O s e q ∙ zeros s h
    go (some j) q = over_some (λ i. i + 1) O s e j q
