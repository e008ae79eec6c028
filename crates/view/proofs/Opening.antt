-- A view that was just opened: what `open` says of it gives what its reader asks, and what is read from it is what the image holds.
use mathlib.Core.Path.{◌≡◌, refl, ap, ◌∙◌}
use mathlib.Core.List.{List}
use Prim.Native.Nat.{ℕ, ◌<◌, ◌+◌, ◌*◌}
use denote.Ref.{Bor}
use Rattle.paper.specs.Image.{states, records_at_of}
use Rattle.image.specs.Forms.{record_at_of}
use Rattle.image.specs.Laid.{Laid}
use Rattle.image.specs.declared.Record.{Record}
use Rattle.view.specs.Opened.{counts_in_front, Opened}
use Rattle.view.specs.declared.View.{View}

-- What `open` says of the view of an image.
abbrev pub IsOpen : Bor (List ℕ) → View → Type 0
IsOpen s r = (r.bytes ≡ s) × ((r.n ≡ (counts_in_front s.now).n) × ((r.k ≡ (counts_in_front s.now).k) × (r.m ≡ (counts_in_front s.now).m)))

-- What a reader asks of a view and a state.
abbrev pub Asked : View → ℕ → Type 0
Asked d st = Opened d.bytes.now d.n d.m × (st < d.n)

module _ (s : Bor (List ℕ)) (st : ℕ) where
  -- What is asked of the image.
  abbrev pub ImageAsked : Type 0
  ImageAsked = Laid s.now × (st < states s.now)

  -- What is said of a record that is read from an image's bytes.
  abbrev pub IsRecord : Bor (List ℕ) → Record → Type 0
  IsRecord x t = t ≡ record_at_of x.now (records_at_of x.now + 4 * st)

  -- The view is opened as its reader asks.
  pub opened_asked : (r : View) → IsOpen s r → ImageAsked → Asked r st
  opened_asked r e pre = rw (e.0, e.1.0, e.1.1.1) (record { states_are = refl; entries_are = refl; laid = pre.0 }, pre.1)

  -- The record that is read from it is the image's.
  pub opened_record : (r : View) (t : Record) → IsOpen s r → IsRecord r.bytes t → IsRecord s t
  opened_record r t e e' = e' ∙ ap (λ (x : Bor (List ℕ)). record_at_of x.now (records_at_of x.now + 4 * st)) e.0
