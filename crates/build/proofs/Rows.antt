-- The entries of a state, class by class: their bytes, and how many there are.
use mathlib.Core.Path.{◌≡◌, refl, sym, ap, ap₂, ◌∙◌}
use mathlib.Core.Bool.{Bool, true, false, cond}
use mathlib.Core.Option.{Option}
use mathlib.Core.List.{List, [], ◌∷◌, ◌++◌, append-nil}
use Prim.Native.Nat.{ℕ, zero, suc, ◌+◌}
use native.Mathlib.Omega.{arith}
use lib.ListN.{length, get_or, length-append, get_or-append}
use lib.Seq.{get_or_at}
use Rattle.paper.specs.Below.{each, bit, how_many_of}
use Rattle.paper.specs.Words.{bytes16}
use Rattle.paper.specs.Table.{classes, next}
use Rattle.paper.specs.Image.{default_from_of}
use Rattle.paper.specs.Results.{entry_bytes, differs, stored_entries}
use Rattle.paper.proofs.Below.{each_same}
use Rattle.paper.proofs.Counts.{count_same}
use Rattle.tally.specs.Kept.{kept, kept_count}
use Rattle.tally.specs.Owned.{list_view}
use Rattle.tally.proofs.Owned.{kept-differs}
use Rattle.build.specs.Pieces.{kept_row}

module _ {A : Type 0} (F : A → List ℕ) (z : A) where
  -- The bytes of all elements of a list.
  abbrev spread : List A → List ℕ
  spread l = each (length l) (λ j. F (get_or l j z))

  spread_more : (l : List A) (x : A) → spread (l ++ (x ∷ [])) ≡ spread l ++ F x
  spread_more l x =
      let e : length (l ++ (x ∷ [])) ≡ suc (length l) = length-append l (x ∷ []) ∙ omega arith in
      ap (λ (m : ℕ). each m (λ j. F (get_or (l ++ (x ∷ [])) j z))) e
      ∙ ap₂ ◌++◌
      (each_same (length l) (λ j. F (get_or (l ++ (x ∷ [])) j z)) (λ j. F (get_or l j z)) (λ j hj. ap F (get_or-append l (x ∷ []) z j hj)))
      (ap F (get_or_at l x [] z (length l) refl))

  module _ (p : ℕ → Bool) (g : ℕ → A) where
    -- The elements of the numbers that pass a test.
    abbrev chosen : ℕ → List A
    chosen k = each k (λ c. cond (p c) (g c ∷ []) [])

    -- Their bytes stand number by number.
    spread_chosen : (k : ℕ) → spread (chosen k) ≡ each k (λ c. cond (p c) (F (g c)) [])
    spread_chosen zero = refl
    spread_chosen (suc k) = go (p k) (spread_chosen k)
      where
        go : (b : Bool) → spread (chosen k) ≡ each k (λ c. cond (p c) (F (g c)) [])
            → spread (chosen k ++ cond b (g k ∷ []) []) ≡ each k (λ c. cond (p c) (F (g c)) []) ++ cond b (F (g k)) []
        go true ih = spread_more (chosen k) (g k) ∙ ap (λ (l : List ℕ). l ++ F (g k)) ih
        go false ih = ap spread (append-nil (chosen k)) ∙ ih ∙ sym (append-nil _)

    -- There are as many as pass the test.
    chosen-length : (k : ℕ) → length (chosen k) ≡ how_many_of k p
    chosen-length zero = refl
    chosen-length (suc k) = length-append (chosen k) (cond (p k) (g k ∷ []) []) ∙ ap₂ ◌+◌ (chosen-length k) (one (p k))
      where
        one : (b : Bool) → length (cond b (g k ∷ []) []) ≡ bit b
        one true = refl
        one false = refl

module _ (t def : List ℕ) (s : ℕ) where
  -- The defaults of the list.
  abbrev default : ℕ → Option ℕ
  default s = default_from_of (get_or def s 0)

  -- The state stores the class.
  abbrev stores : ℕ → Bool
  stores c = differs t default s c (default s)

  -- The entry of a class.
  abbrev entry : ℕ → ℕ × ℕ
  entry c = (c, next t s c)

  -- The bytes of an entry.
  abbrev bytes : ℕ × ℕ → List ℕ
  bytes e = bytes16 e.0 ++ bytes16 e.1

  -- The entries of a state are those of the classes that it keeps, in their order.
  pub entries-row : entry_bytes (list_view t def) s ≡ kept_row t (classes t) def s
  unfolding entry_bytes stored_entries
  entries-row =
      spread_chosen bytes (0, 0) stores entry (classes t)
      ∙ each_same (classes t) (λ c. cond (stores c) (bytes (entry c)) []) (λ c. cond (kept t s c (default s)) (bytes (entry c)) [])
      (λ c hc. ap (λ (b : Bool). cond b (bytes (entry c)) []) (sym (kept-differs t default s c (default s))))

  -- There are as many as it keeps.
  pub entries-count : (list_view t def).count s ≡ kept_count t (classes t) s (get_or def s 0)
  unfolding stored_entries
  entries-count =
      chosen-length bytes (0, 0) stores entry (classes t)
      ∙ count_same (classes t) stores (λ c. kept t s c (default s)) (λ c hc. sym (kept-differs t default s c (default s)))
