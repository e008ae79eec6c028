-- Kinds of wrong programs that the promise of reduce shuts out by name. A program here is any function from a table and a room to what it answers and leaves; it is held to its promise on bytes alone.
use mathlib.Core.Path.{◌≡◌, refl, sym, ap, ◌∙◌}
use mathlib.Core.Bool.{true}
use mathlib.Core.List.{List, [], ◌∷◌}
use Prim.Native.Nat.{ℕ}
use native.Mathlib.Omega.{arith}
use lib.ListN.{length}
use Rattle.paper.specs.Words.{byte_at, Bytes, number16, bytes16}
use Rattle.paper.specs.Labels.{label_count, label, labels_from, labels_behind}
use Rattle.paper.specs.Table.{labels, next, table_grounds}
use Rattle.paper.specs.Results.{label_bytes_of, table_from}
use Rattle.paper.specs.FallBack.{levels}
use Rattle.paper.specs.Reduce.{reduced}
use Rattle.paper.specs.Operations.{Built, judge_table_of, reduce_grounds, reduce}
use Rattle.paper.specs.Promises.{Reduces}
use Rattle.paper.specs.Cases.{T, twice, room, Case, right}
use Rattle.paper.proofs.Cases.{pick_right}
use Rattle.demands.proofs.Known as known

-- The table of five states of which two are left: its 302 bytes are reduced to 278, from the first of the room on. Of T all states are left, and so all 294 bytes.
abbrev reducing : List Case
reducing =
    ((reduce twice (room 278)).number ∷ [], 0 ∷ [])
    ∷ ((reduce twice (room 278)).result_length ∷ [], 278 ∷ [])
    ∷ (byte_at (reduce twice (room 278)).room 0 ∷ [], 2 ∷ [])
    ∷ (length twice ∷ [], 302 ∷ [])
    ∷ ((reduce T (room 294)).number ∷ [], 0 ∷ [])
    ∷ ((reduce T (room 294)).result_length ∷ [], 294 ∷ []) ∷ []

-- This is right, by computation.
reducing_right : right reducing ≡ true
unfolding number16 bytes16 label_count label labels_from labels_behind labels next table_grounds label_bytes_of table_from levels judge_table_of reduced reduce_grounds reduce
reducing_right = refl

-- So is each fact of it.
only : {x a : ℕ} → x ∷ [] ≡ a ∷ [] → x ≡ a
only {x} {a} e = let z : x ≡ a = cc in z

-- A program p that keeps the promise of reduce.
module _ (p : List ℕ → List ℕ → Built) (keeps : (t room : List ℕ) → Bytes t → Bytes room → Reduces t room (p t room).number (p t room).result_length (p t room).room) where
  -- What it promises of that table.
  kept : Reduces twice (room 278) (p twice (room 278)).number (p twice (room 278)).result_length (p twice (room 278)).room
  kept = keeps twice (room 278) known.bytes_twice (known.bytes_room 278)

  -- It does not refuse everything.
  pub reduce_refuses_all : ¬ ((t room : List ℕ) → Bytes t → Bytes room → ¬ ((p t room).number ≡ 0))
  reduce_refuses_all wrong = wrong twice (room 278) known.bytes_twice (known.bytes_room 278) (kept.number_is ∙ only (pick_right 0 reducing reducing_right))

  -- It does not leave every room untouched.
  pub reduce_untouched : ¬ ((t room : List ℕ) → Bytes t → Bytes room → (p t room).room ≡ room)
  reduce_untouched wrong =
      let e : byte_at (room 278) 0 ≡ 2 =
      ap (λ (r : List ℕ). byte_at r 0) (sym (wrong twice (room 278) known.bytes_twice (known.bytes_room 278)) ∙ kept.room_is) ∙ only (pick_right 2 reducing reducing_right) in
      absurd (omega arith)

  -- It does not hand every table back as it is.
  pub reduce_copies : ¬ ((t room : List ℕ) → Bytes t → Bytes room → (p t room).number ≡ 0 → (p t room).result_length ≡ length t)
  reduce_copies wrong =
      let q : ◌≡◌ {A = ℕ} 278 302 =
      sym (kept.length_is ∙ only (pick_right 1 reducing reducing_right))
      ∙ wrong twice (room 278) known.bytes_twice (known.bytes_room 278) (kept.number_is ∙ only (pick_right 0 reducing reducing_right))
      ∙ only (pick_right 3 reducing reducing_right) in
      absurd (omega arith)

  -- Its tables do not have one length, as one fixed table has.
  pub reduce_one_table : (fixed : ℕ) → ¬ ((t room : List ℕ) → Bytes t → Bytes room → (p t room).number ≡ 0 → (p t room).result_length ≡ fixed)
  reduce_one_table fixed wrong =
      let k = keeps T (room 294) known.bytes_T (known.bytes_room 294) in
      let q : ◌≡◌ {A = ℕ} 278 294 =
      sym (kept.length_is ∙ only (pick_right 1 reducing reducing_right))
      ∙ wrong twice (room 278) known.bytes_twice (known.bytes_room 278) (kept.number_is ∙ only (pick_right 0 reducing reducing_right))
      ∙ sym (wrong T (room 294) known.bytes_T (known.bytes_room 294) (k.number_is ∙ only (pick_right 4 reducing reducing_right)))
      ∙ (k.length_is ∙ only (pick_right 5 reducing reducing_right)) in
      absurd (omega arith)
