-- The bytes that a slot chooses are those of its state, and what is known of a turn in the one holds in the other.
use mathlib.Core.Path.{◌≡◌, refl, subst}
use mathlib.Core.List.{List}
use mathlib.Core.Option.{Option, none, some}
use Prim.Native.Nat.{ℕ, zero, suc}
use native.Mathlib.Numerals.{add-one}
use Rattle.paper.specs.Patch.{listed_at, from_either}
use Rattle.abreast.specs.Turned.{Turned}
use Rattle.patch.specs.Listed.{slot_of}
use Rattle.overlaid.specs.Chosen.{chosen, bytes_of}

-- A slot of 0 chooses the image.
pub chosen_image : (b x : List ℕ) (slot : ℕ) → slot ≡ 0 → b ≡ chosen b x slot
chosen_image b x slot e = rw e

-- Another chooses the patch.
pub chosen_patch : (b x : List ℕ) (slot : ℕ) → ¬ (slot ≡ 0) → x ≡ chosen b x slot
chosen_patch b x zero n = absurd (n refl)
chosen_patch b x (suc slot) n = refl

-- The slot of a state chooses its bytes.
pub chosen_bytes : (b x : List ℕ) (s slot : ℕ) → slot ≡ slot_of (listed_at x s) → chosen b x slot ≡ bytes_of b x s
chosen_bytes b x s slot e = rw e (go (listed_at x s))
  where
    go : (o : Option ℕ) → chosen b x (slot_of o) ≡ from_either o (λ _. x) b
    go none = refl
    go (some i) = rw (add-one i)

-- A turn in some bytes is one in the same bytes by another name.
pub turned_in : {b b' : List ℕ} {first s from : ℕ} {place left to hop wait place' left' wait' to' hop' : List ℕ} → b ≡ b'
    → Turned b first s from place left to hop wait place' left' wait' to' hop' → Turned b' first s from place left to hop wait place' left' wait' to' hop'
turned_in {first} {s} {from} {place} {left} {to} {hop} {wait} {place'} {left'} {wait'} {to'} {hop'} e T =
    subst (λ (b : List ℕ). Turned b first s from place left to hop wait place' left' wait' to' hop') e T
