-- Kinds of wrong programs that the promises shut out by name. A program here is any function from what it can be handed to what it answers and leaves.
use mathlib.Core.Path.{◌≡◌, sym, ap, ap₂, ◌∙◌, refl}
use mathlib.Core.List.{List, ◌∷◌}
use Prim.Native.Nat.{ℕ}
use native.Mathlib.Omega.{arith}
use lib.ListN.{length, take}
use Rattle.paper.specs.Words.{byte_at, Bytes}
use Rattle.paper.specs.Labels.{one}
use Rattle.paper.specs.Image as image
use Rattle.paper.specs.Operations.{Built, result, compact, write, expand, rewrite, Scanned, scan, walk}
use Rattle.paper.specs.Promises.{JudgesTable, JudgesImage, IsBuilt, IsScanned, Compacts, Writes, Expands, Rewrites, Scans, Walks}
use Rattle.paper.specs.Handed.{ToJudge, ToCompact, ToWrite, ToConvert, ToRun}
use Rattle.paper.specs.Cases.{T, T2, T_two, three, three3, aabbb, room}
use Rattle.paper.proofs.Editions.{one≢two}
use Rattle.trips.proofs.EditionKept.{compact_keeps_edition}
use Rattle.demands.proofs.Known as known
use Rattle.demands.proofs.Known.{Accepts, to_three_of, roots_only_of, aaaaa}

-- A program that refuses every table is not the judge of tables.
pub judge_table_refuses_all : (p : ToJudge → ℕ) → ((x : ToJudge) → JudgesTable x.given (p x)) → ¬ ((x : ToJudge) → ¬ (p x ≡ 0))
judge_table_refuses_all p keeps wrong =
    let x : ToJudge = record { given = T; given_bytes = known.bytes_T } in
    wrong x (keeps x ∙ known.judge_T)

-- A program that refuses every image is not the judge of images.
pub judge_image_refuses_all : (p : ToJudge → ℕ) → ((x : ToJudge) → JudgesImage x.given (p x)) → ¬ ((x : ToJudge) → ¬ (p x ≡ 0))
judge_image_refuses_all p keeps wrong =
    let x : ToJudge = record { given = T2; given_bytes = known.bytes_T2 } in
    wrong x (keeps x ∙ (known.expand-T).0)

-- A program p that keeps the promise of an operation that builds, on any inputs A, each with its room.
module _ {A : Type 0} (room_of : A → List ℕ) (operation p : A → Built) (keeps : (x : A) → IsBuilt (operation x) (p x).number (p x).result_length (p x).room) where
  -- It does not refuse everything, where the operation accepts something.
  pub refuses_all : (x : A) → (operation x).number ≡ 0 → ¬ ((x : A) → ¬ ((p x).number ≡ 0))
  refuses_all x e wrong = wrong x ((keeps x).number_is ∙ e)

  -- It does not leave every room untouched, where the operation changes a room's first byte.
  pub untouched : (x : A) (first : ℕ) → byte_at (operation x).room 0 ≡ first → ¬ (byte_at (room_of x) 0 ≡ first) → ¬ ((x : A) → (p x).room ≡ room_of x)
  untouched x first e n wrong = n (ap (λ (r : List ℕ). byte_at r 0) (sym (wrong x) ∙ (keeps x).room_is) ∙ e)

  -- Two of its results that the operation makes of two lengths are not of one.
  two_lengths : (x x' : A) (l l' : ℕ) → Accepts (operation x) l → Accepts (operation x') l' → ¬ (l ≡ l')
      → ((p x).number ≡ 0 → (p x').number ≡ 0 → (p x).result_length ≡ (p x').result_length) → ⊥
  two_lengths x x' l l' (z, e) (z', e') n same =
      n (sym ((keeps x).length_is ∙ e) ∙ same ((keeps x).number_is ∙ z) ((keeps x').number_is ∙ z') ∙ ((keeps x').length_is ∙ e'))

-- A program p that keeps the promise of compact.
module _ (p : ToCompact → Built) (keeps : (x : ToCompact) → Compacts x.table x.order x.bound x.room (p x).number (p x).result_length (p x).room) where
  -- Compact itself.
  abbrev compacting : ToCompact → Built
  compacting x = compact x.table x.order x.bound x.room

  -- T with D 0 and with D 2, and the table of three states with D 2.
  abbrev zero_T : ToCompact
  zero_T = record { table = T; order = 0; bound = 0; room = room 352; table_bytes = known.bytes_T; order_small = omega arith; bound_small = omega arith; room_bytes = known.bytes_room 352 }

  abbrev two_T : ToCompact
  two_T = record { table = T; order = 0; bound = 2; room = room 324; table_bytes = known.bytes_T; order_small = omega arith; bound_small = omega arith; room_bytes = known.bytes_room 324 }

  abbrev two_three : ToCompact
  two_three = record { table = three; order = 0; bound = 2; room = room 322; table_bytes = known.bytes_three; order_small = omega arith; bound_small = omega arith; room_bytes = known.bytes_room 322 }

  -- Table T in edition 2 with D 2.
  abbrev two_T_two : ToCompact
  two_T_two = record { table = T_two; order = 0; bound = 2; room = room 330; table_bytes = known.bytes_T_two; order_small = omega arith; bound_small = omega arith; room_bytes = known.bytes_room 330 }

  -- It does not refuse everything.
  pub compact_refuses_all : ¬ ((x : ToCompact) → ¬ ((p x).number ≡ 0))
  compact_refuses_all = refuses_all (λ x. x.room) compacting p keeps two_T (known.compact_two).0

  -- It does not leave every room untouched.
  pub compact_untouched : ¬ ((x : ToCompact) → (p x).room ≡ x.room)
  compact_untouched = untouched (λ x. x.room) compacting p keeps two_T 4 (known.filled_rooms).0 (λ e. absurd (omega arith))

  -- Its images do not have one length for each order and D, as one fixed image for each has, whatever the table.
  pub compact_one_image : (fixed : ℕ → ℕ → ℕ) → ¬ ((x : ToCompact) → (p x).number ≡ 0 → (p x).result_length ≡ fixed x.order x.bound)
  compact_one_image fixed wrong =
      two_lengths (λ x. x.room) compacting p keeps two_T two_three 324 322 known.compact_two known.compact-three (λ e. absurd (omega arith))
      (λ z z'. wrong two_T z ∙ sym (wrong two_three z'))

  -- The length of its image does depend on D, so it is no build without defaults whatever D is.
  pub compact_ignores_bound : ¬ ((x x' : ToCompact) → x.table ≡ x'.table → x.order ≡ x'.order → (p x).number ≡ 0 → (p x').number ≡ 0 → (p x).result_length ≡ (p x').result_length)
  compact_ignores_bound wrong =
      two_lengths (λ x. x.room) compacting p keeps zero_T two_T 352 324 known.compact_zero known.compact_two (λ e. absurd (omega arith)) (wrong zero_T two_T refl refl)

  -- It does not leave images of edition 1 only.
  pub compact_loses_edition : ¬ ((x : ToCompact) → (p x).number ≡ 0 → image.edition (result (p x)) ≡ one)
  compact_loses_edition wrong =
      let k = keeps two_T_two in
      let e : image.edition (result (p two_T_two)) ≡ image.edition (result (compacting two_T_two)) = ap₂ (λ (l : ℕ) (r : List ℕ). image.edition (take l r)) k.length_is k.room_is in
      one≢two (sym (wrong two_T_two (k.number_is ∙ (known.compact-T_two).0)) ∙ e ∙ compact_keeps_edition T_two 0 2 (room 330) known.bytes_T_two (known.compact-T_two).0 ∙ known.edition-T_two)

-- A program p that keeps the promise of write.
module _ (p : ToWrite → Built) (keeps : (x : ToWrite) → Writes x.table x.defaults x.room (p x).number (p x).result_length (p x).room) where
  -- Write itself.
  abbrev writing : ToWrite → Built
  writing x = write x.table x.defaults x.room

  -- T with 0, 1 and 2 to 3, and T without defaults.
  abbrev to_three : ToWrite
  to_three = record { table = T; defaults = to_three_of; room = room 324; table_bytes = known.bytes_T; defaults_bytes = (known.bytes_lists).0; room_bytes = known.bytes_room 324 }

  abbrev roots_only : ToWrite
  roots_only = record { table = T; defaults = roots_only_of; room = room 352; table_bytes = known.bytes_T; defaults_bytes = (known.bytes_lists).1; room_bytes = known.bytes_room 352 }

  -- It does not refuse everything.
  pub write_refuses_all : ¬ ((x : ToWrite) → ¬ ((p x).number ≡ 0))
  write_refuses_all = refuses_all (λ x. x.room) writing p keeps to_three (known.write-T).0

  -- It does not leave every room untouched.
  pub write_untouched : ¬ ((x : ToWrite) → (p x).room ≡ x.room)
  write_untouched = untouched (λ x. x.room) writing p keeps to_three 4 (known.filled_rooms).1 (λ e. absurd (omega arith))

  -- Its images are not all of one length, as one fixed image is.
  pub write_one_image : (fixed : ℕ) → ¬ ((x : ToWrite) → (p x).number ≡ 0 → (p x).result_length ≡ fixed)
  write_one_image fixed wrong =
      two_lengths (λ x. x.room) writing p keeps to_three roots_only 324 352 known.write-T known.write_roots (λ e. absurd (omega arith))
      (λ z z'. wrong to_three z ∙ sym (wrong roots_only z'))

-- A program p that keeps the promise of expand.
module _ (p : ToConvert → Built) (keeps : (x : ToConvert) → Expands x.image x.room (p x).number (p x).result_length (p x).room) where
  -- Expand itself.
  abbrev expanding : ToConvert → Built
  expanding x = expand x.image x.room

  -- The image of T with D 2.
  abbrev image_T : ToConvert
  image_T = record { image = T2; room = room 294; image_bytes = known.bytes_T2; room_bytes = known.bytes_room 294 }

  -- It does not refuse everything.
  pub expand_refuses_all : ¬ ((x : ToConvert) → ¬ ((p x).number ≡ 0))
  expand_refuses_all = refuses_all (λ x. x.room) expanding p keeps image_T (known.expand-T).1

  -- It does not leave every room untouched.
  pub expand_untouched : ¬ ((x : ToConvert) → (p x).room ≡ x.room)
  expand_untouched = untouched (λ x. x.room) expanding p keeps image_T 4 (known.filled_rooms).2 (λ e. absurd (omega arith))

-- A program p that keeps the promise of rewrite, which can be handed what expand can.
module _ (p : ToConvert → Built) (keeps : (x : ToConvert) → Rewrites x.image x.room (p x).number (p x).result_length (p x).room) where
  -- Rewrite itself.
  abbrev rewriting : ToConvert → Built
  rewriting x = rewrite x.image x.room

  -- The image of three states with 2 to 1 and 1 to 0.
  abbrev image_three : ToConvert
  image_three = record { image = three3; room = room 322; image_bytes = known.bytes_three3; room_bytes = known.bytes_room 322 }

  -- It does not refuse everything.
  pub rewrite_refuses_all : ¬ ((x : ToConvert) → ¬ ((p x).number ≡ 0))
  rewrite_refuses_all = refuses_all (λ x. x.room) rewriting p keeps image_three (known.rewrite-three).0

  -- It does not leave every room untouched.
  pub rewrite_untouched : ¬ ((x : ToConvert) → (p x).room ≡ x.room)
  rewrite_untouched = untouched (λ x. x.room) rewriting p keeps image_three 3 (known.rewrite-filled).0 (λ e. absurd (omega arith))

  -- It does not hand every image back as it is.
  pub rewrite_copies : ¬ ((x : ToConvert) → (p x).number ≡ 0 → (p x).result_length ≡ length x.image)
  rewrite_copies wrong =
      let k = keeps image_three in
      let q : ◌≡◌ {A = ℕ} 322 314 = sym (k.length_is ∙ (known.rewrite-three).1) ∙ wrong image_three (k.number_is ∙ (known.rewrite-three).0) ∙ (known.rewrite-filled).1 in
      absurd (omega arith)

-- A program p that keeps the promise of an operation that runs a payload, and rules on which the operation is known.
module _ (operation : List ℕ → ℕ → List ℕ → List ℕ → Scanned) (rules : List ℕ) (rules_bytes : Bytes rules) (p : ToRun → Scanned)
    (keeps : (x : ToRun) → IsScanned (operation x.rules x.state x.payload x.room) (p x).number (p x).taken (p x).state (p x).reports (p x).hops (p x).room) where
  -- "aabbb" and "aaaaa" over the rules.
  abbrev over : (payload : List ℕ) → Bytes payload → ToRun
  over payload P =
      record {
        rules = rules;
        state = 0;
        payload = payload;
        room = room 12;
        rules_bytes = rules_bytes;
        state_small = omega arith;
        payload_bytes = P;
        room_bytes = known.bytes_room 12;
      }

  abbrev over_aabbb : ToRun
  over_aabbb = over aabbb (known.bytes_payloads).0

  abbrev over_aaaaa : ToRun
  over_aaaaa = over aaaaa (known.bytes_payloads).1

  -- It does not refuse everything, where the operation accepts "aabbb".
  runs_nothing : (operation rules 0 aabbb (room 12)).number ≡ 0 → ¬ ((x : ToRun) → ¬ ((p x).number ≡ 0))
  runs_nothing e wrong = wrong over_aabbb ((keeps over_aabbb).number_is ∙ e)

  -- It does not always stop before the first byte, where the operation takes five.
  takes_nothing : (operation rules 0 aabbb (room 12)).taken ≡ 5 → ¬ ((x : ToRun) → (p x).taken ≡ 0)
  takes_nothing e wrong = let q : ◌≡◌ {A = ℕ} 5 0 = sym ((keeps over_aabbb).taken_is ∙ e) ∙ wrong over_aabbb in absurd (omega arith)

  -- It does not work the first byte and invent the others from their number alone, where the operation ends in two states.
  invents_bytes : (operation rules 0 aabbb (room 12)).state ≡ 0 → (operation rules 0 aaaaa (room 12)).state ≡ 1 → (invented : List ℕ → ℕ → ℕ → ℕ → ℕ)
      → ¬ ((x : ToRun) (byte : ℕ) (others : List ℕ) → x.payload ≡ byte ∷ others → (p x).state ≡ invented x.rules x.state byte (length others))
  invents_bytes e e' invented wrong =
      let q : ◌≡◌ {A = ℕ} 0 1 =
      sym ((keeps over_aabbb).state_is ∙ e) ∙ wrong over_aabbb 97 _ refl
      ∙ sym (wrong over_aaaaa 97 _ refl) ∙ ((keeps over_aaaaa).state_is ∙ e') in
      absurd (omega arith)

  -- It does not invent the hops from the number of bytes, where the operation takes two numbers of them.
  invents_hops : (operation rules 0 aabbb (room 12)).hops ≡ 2 → (operation rules 0 aaaaa (room 12)).hops ≡ 4 → (invented : ℕ → ℕ) → ¬ ((x : ToRun) → (p x).hops ≡ invented (length x.payload))
  invents_hops e e' invented wrong =
      let q : ◌≡◌ {A = ℕ} 2 4 =
      sym ((keeps over_aabbb).hops_is ∙ e) ∙ wrong over_aabbb
      ∙ sym (wrong over_aaaaa) ∙ ((keeps over_aaaaa).hops_is ∙ e') in
      absurd (omega arith)

-- A program p that keeps the promise of scan, over the image of T with D 2.
module _ (p : ToRun → Scanned)
    (keeps : (x : ToRun) → Scans x.rules x.state x.payload x.room (p x).number (p x).taken (p x).state (p x).reports (p x).hops (p x).room) where
  -- It does not refuse everything.
  pub scan_refuses_all : ¬ ((x : ToRun) → ¬ ((p x).number ≡ 0))
  scan_refuses_all = runs_nothing scan T2 known.bytes_T2 p keeps (known.accepts_aabbb).0

  -- It does not always stop before the first byte.
  pub scan_takes_nothing : ¬ ((x : ToRun) → (p x).taken ≡ 0)
  scan_takes_nothing = takes_nothing scan T2 known.bytes_T2 p keeps (known.accepts_aabbb).1

  -- It does not work the first byte and invent the others from their number alone.
  pub scan_invents_bytes : (invented : List ℕ → ℕ → ℕ → ℕ → ℕ)
      → ¬ ((x : ToRun) (byte : ℕ) (others : List ℕ) → x.payload ≡ byte ∷ others → (p x).state ≡ invented x.rules x.state byte (length others))
  scan_invents_bytes = invents_bytes scan T2 known.bytes_T2 p keeps known.state_aabbb (known.scan_aaaaa).0

  -- It does not invent the hops from the number of bytes.
  pub scan_invents_hops : (invented : ℕ → ℕ) → ¬ ((x : ToRun) → (p x).hops ≡ invented (length x.payload))
  scan_invents_hops = invents_hops scan T2 known.bytes_T2 p keeps known.hops_aabbb (known.scan_aaaaa).1

-- A program p that keeps the promise of walk, over T.
module _ (p : ToRun → Scanned)
    (keeps : (x : ToRun) → Walks x.rules x.state x.payload x.room (p x).number (p x).taken (p x).state (p x).reports (p x).hops (p x).room) where
  -- It does not refuse everything.
  pub walk_refuses_all : ¬ ((x : ToRun) → ¬ ((p x).number ≡ 0))
  walk_refuses_all = runs_nothing walk T known.bytes_T p keeps (known.walk-aabbb).0

  -- It does not always stop before the first byte.
  pub walk_takes_nothing : ¬ ((x : ToRun) → (p x).taken ≡ 0)
  walk_takes_nothing = takes_nothing walk T known.bytes_T p keeps (known.walk-aabbb).1

  -- It does not work the first byte and invent the others from their number alone.
  pub walk_invents_bytes : (invented : List ℕ → ℕ → ℕ → ℕ → ℕ)
      → ¬ ((x : ToRun) (byte : ℕ) (others : List ℕ) → x.payload ≡ byte ∷ others → (p x).state ≡ invented x.rules x.state byte (length others))
  walk_invents_bytes = invents_bytes walk T known.bytes_T p keeps known.walk_state known.walk_aaaaa
