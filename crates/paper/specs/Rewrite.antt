-- Defaults not worth their hops, and the image without them.
use Rattle.std.specs.Prelude.{◌≡◌, Bool, false, List, ℕ, ◌<◌, ltb, leb}
use Rattle.std.proofs.Math.Option.{Option, none, some}
use Rattle.paper.specs.Below.{when}
use Rattle.paper.specs.Table.{shared}
use Rattle.paper.specs.Image as image
use Rattle.paper.specs.Results.{image_of, table_of}

module _ (t : List ℕ) (s : ℕ) where
  -- A default that shares fewer than two classes with its state is not worth its hops.
  abbrev pub not_worth : Option ℕ → Bool
  not_worth none = false
  not_worth (some d) = ltb (shared t s d) 2

  -- The default that stays: one not worth its hops is dropped, which makes the state a root.
  abbrev pub kept : Option ℕ → Option ℕ
  kept none = none
  kept (some d) = when (leb 2 (shared t s d)) d

-- The image without the defaults not worth their hops; every other default stays.
unfoldable pub rewritten : List ℕ → List ℕ
rewritten b =
    let t = table_of b in
    image_of t (λ s. kept t s (image.default b s))

-- Every default of an image is worth its hops.
abbrev pub AllWorth : List ℕ → Type 0
AllWorth b = (s : ℕ) → s < image.states b → not_worth (table_of b) s (image.default b s) ≡ false
