-- Kinds of wrong programs that the promise of strings shuts out by name. A program here is any function from a word list and a room to what it answers and leaves; it is held to its promise on bytes alone.
use mathlib.Core.Path.{◌≡◌, refl, sym, ap, ◌∙◌}
use mathlib.Core.Bool.{true}
use mathlib.Core.List.{List, [], ◌∷◌, ◌++◌}
use Prim.Native.Nat.{ℕ}
use native.Mathlib.Omega.{arith}
use Rattle.paper.specs.Words.{byte_at, Bytes, number16, bytes16}
use Rattle.paper.specs.Results.{label_bytes_of, table_from}
use Rattle.paper.specs.Strings as list
use Rattle.paper.specs.Strings.{list_bad_of, list_labels_bad, rules, names, spare, classes, class_of, byte_of, too_many_labels, table_of_rules, tabulated}
use Rattle.paper.specs.Operations.{Built, strings_grounds, strings}
use Rattle.paper.specs.Promises.{Tabulates}
use Rattle.paper.specs.Cases.{string_of, room, Case, right}
use Rattle.paper.proofs.Cases.{pick_right}
use Rattle.demands.proofs.Known as known
use Rattle.demands.proofs.Known.{all_bytes, bytes_tested}

-- The word lists of "a" and of "ab", each with the label 5.
abbrev one : List ℕ
one = bytes16 1 ++ string_of 5 (97 ∷ [])

abbrev longer : List ℕ
longer = bytes16 1 ++ string_of 5 (97 ∷ 98 ∷ [])

-- Their tables have 276 and 288 bytes, from the first of the room on; the first has the label 5 on state 1.
abbrev tabulating : List Case
tabulating =
    ((strings one (room 276)).number ∷ [], 0 ∷ [])
    ∷ ((strings one (room 276)).result_length ∷ [], 276 ∷ [])
    ∷ (byte_at (strings one (room 276)).room 0 ∷ [], 2 ∷ [])
    ∷ (byte_at (strings one (room 276)).room 266 ∷ [], 5 ∷ [])
    ∷ ((strings longer (room 288)).number ∷ [], 0 ∷ [])
    ∷ ((strings longer (room 288)).result_length ∷ [], 288 ∷ []) ∷ []

-- This is right, by computation.
tabulating_right : right tabulating ≡ true
unfolding number16 bytes16 label_bytes_of table_from list.label list.size list.string list_bad_of list_labels_bad rules names spare classes class_of byte_of too_many_labels table_of_rules tabulated strings_grounds strings
tabulating_right = refl

-- So is each fact of it.
only : {x a : ℕ} → x ∷ [] ≡ a ∷ [] → x ≡ a
only {x} {a} e = let z : x ≡ a = cc in z

-- The lists are bytes.
bytes_lists : Bytes one × Bytes longer
unfolding bytes16 all_bytes
bytes_lists = (bytes_tested one refl, bytes_tested longer refl)

-- A program p that keeps the promise of strings.
module _ (p : List ℕ → List ℕ → Built) (keeps : (b room : List ℕ) → Bytes b → Bytes room → Tabulates b room (p b room).number (p b room).result_length (p b room).room) where
  -- What it promises of the first list.
  kept : Tabulates one (room 276) (p one (room 276)).number (p one (room 276)).result_length (p one (room 276)).room
  kept = keeps one (room 276) bytes_lists.0 (known.bytes_room 276)

  -- It does not refuse everything.
  pub strings_refuses_all : ¬ ((b room : List ℕ) → Bytes b → Bytes room → ¬ ((p b room).number ≡ 0))
  strings_refuses_all wrong = wrong one (room 276) bytes_lists.0 (known.bytes_room 276) (kept.number_is ∙ only (pick_right 0 tabulating tabulating_right))

  -- It does not leave every room untouched.
  pub strings_untouched : ¬ ((b room : List ℕ) → Bytes b → Bytes room → (p b room).room ≡ room)
  strings_untouched wrong =
      let e : byte_at (room 276) 0 ≡ 2 =
      ap (λ (r : List ℕ). byte_at r 0) (sym (wrong one (room 276) bytes_lists.0 (known.bytes_room 276)) ∙ kept.room_is) ∙ only (pick_right 2 tabulating tabulating_right) in
      absurd (omega arith)

  -- It does not leave tables without a label: behind the counts of two states stands one.
  pub strings_no_label : ¬ ((b room : List ℕ) → Bytes b → Bytes room → (p b room).number ≡ 0 → byte_at (p b room).room 266 ≡ 0)
  strings_no_label wrong =
      let e : ◌≡◌ {A = ℕ} 0 5 =
      sym (wrong one (room 276) bytes_lists.0 (known.bytes_room 276) (kept.number_is ∙ only (pick_right 0 tabulating tabulating_right)))
      ∙ ap (λ (r : List ℕ). byte_at r 266) kept.room_is ∙ only (pick_right 3 tabulating tabulating_right) in
      absurd (omega arith)

  -- Its tables do not have one length, as one fixed table has.
  pub strings_one_table : (fixed : ℕ) → ¬ ((b room : List ℕ) → Bytes b → Bytes room → (p b room).number ≡ 0 → (p b room).result_length ≡ fixed)
  strings_one_table fixed wrong =
      let k = keeps longer (room 288) bytes_lists.1 (known.bytes_room 288) in
      let q : ◌≡◌ {A = ℕ} 276 288 =
      sym (kept.length_is ∙ only (pick_right 1 tabulating tabulating_right))
      ∙ wrong one (room 276) bytes_lists.0 (known.bytes_room 276) (kept.number_is ∙ only (pick_right 0 tabulating tabulating_right))
      ∙ sym (wrong longer (room 288) bytes_lists.1 (known.bytes_room 288) (k.number_is ∙ only (pick_right 4 tabulating tabulating_right)))
      ∙ (k.length_is ∙ only (pick_right 5 tabulating tabulating_right)) in
      absurd (omega arith)
