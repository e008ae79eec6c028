-- The line of a bound: of a table that is not too long for the program the figures are those that the line shows.
use mathlib.Core.Path.{◌≡◌, refl, ap, ◌∙◌}
use mathlib.Core.List.{List, [], ◌∷◌}
use Prim.Native.Nat.{ℕ, zero, suc, ◌≤◌}
use native.Mathlib.Omega.{arith}
use lib.Dec.{ltb}
use lib.ListN.{length}
use borrow.Author.Tests.{le-ltb}
use Rattle.paper.specs.Refusals.{first}
use Rattle.paper.specs.Table.{table_grounds}
use Rattle.paper.specs.Defaults.{defaults}
use Rattle.paper.specs.Operations.{judge_table_of, result, building, compacted, compact_grounds, compact}
use Rattle.paper.specs.Text.{line}
use Rattle.paper.specs.Programs.{bounds_line}
use Rattle.paper.proofs.Refusals.{past, first_append}
use Rattle.facts.proofs.TableFacts.{accepted_table}
use Rattle.trips.proofs.Lengths.{image_most}
use Rattle.trips.proofs.Building.{built-result}
use Rattle.figures.specs.Figures.{Shows}

-- The number of a result is that of its grounds.
building_number : (number : ℕ) (bytes room : List ℕ) → (building number bytes room).number ≡ number
building_number zero bytes room = refl
building_number (suc number) bytes room = refl

module _ (t : List ℕ) (D : ℕ) (room : List ℕ) (few : length t ≤ 30000) (wide : 65536 ≤ length room) where
  -- The image of an accepted table has room: at most all its entries, of two bytes in the table and four in the image.
  image_short : judge_table_of t ≡ 0 → length (compacted t 0 D) ≤ length room
  unfolding compacted
  image_short e = let A = accepted_table t e in omega (arith, image_most t (defaults t 0 D), A.long, A.few_states)

  -- So nothing is refused but by the judge.
  past_room : (number : ℕ) → judge_table_of t ≡ number → past number (first ((16, ltb (length room) (length (compacted t 0 D))) ∷ [])) ≡ number
  past_room zero e = let h = image_short e in rw (le-ltb (length room) (length (compacted t 0 D)) h)
  past_room (suc number) e = refl

  grounds_judged : first (compact_grounds t 0 D (length room)) ≡ judge_table_of t
  unfolding compact_grounds judge_table_of table_grounds
  grounds_judged = first_append (table_grounds t) ((16, ltb (length room) (length (compacted t 0 D))) ∷ []) refl ∙ past_room (judge_table_of t) refl

  -- What compact answers and leaves goes by the judge's number alone.
  pub compact_judged : compact t 0 D room ≡ building (judge_table_of t) (compacted t 0 D) room
  unfolding compact
  compact_judged = ap (λ (number : ℕ). building number (compacted t 0 D) room) grounds_judged

  -- Of an accepted table it leaves its image.
  pub compacted-left : judge_table_of t ≡ 0 → result (compact t 0 D room) ≡ compacted t 0 D
  compacted-left e = ap result (compact_judged ∙ ap (λ (number : ℕ). building number (compacted t 0 D) room) e) ∙ (built-result 0 (compacted t 0 D) room refl).1

  module _ {number deep far stored defaults bytes : ℕ} (S : Shows (compact t 0 D room) number deep far stored defaults bytes) where
    -- The number shown is the judge's.
    pub shows_number : number ≡ judge_table_of t
    shows_number = S.number_is ∙ rw compact_judged (building_number (judge_table_of t) (compacted t 0 D) room)

    -- The figures shown make the line.
    pub shows_line : judge_table_of t ≡ 0 → line (D ∷ deep ∷ far ∷ stored ∷ defaults ∷ bytes ∷ []) ≡ bounds_line t D
    unfolding bounds_line
    shows_line e =
        let o : compact t 0 D room ≡ building 0 (compacted t 0 D) room = compact_judged ∙ ap (λ (number : ℕ). building number (compacted t 0 D) room) e in
        rw (S.deep_is, S.far_is, S.stored_is, S.defaults_are, S.bytes_are, compacted-left e, o)
