-- What holds of every accepted image and its own table holds of what compact and write left and the table that was handed in.
use mathlib.Core.Path.{◌≡◌, sym, subst}
use mathlib.Core.List.{List}
use mathlib.Core.Option.{Option}
use Prim.Native.Nat.{ℕ}
use Rattle.paper.specs.Words.{Bytes}
use Rattle.paper.specs.Results.{image_of, table_of}
use Rattle.paper.specs.Defaults.{defaults}
use Rattle.paper.specs.Operations.{result, judge_image_of, listed, compact, write}
use Rattle.trips.proofs.Writable.{Writable}
use Rattle.trips.proofs.ImageOf.{image_of_accepted, table_of_image}
use Rattle.trips.proofs.ResultBytes.{image_of_bytes}
use Rattle.trips.proofs.ExpandsBack.{write_leaves, compact_leaves}

module _ (Holds : List ℕ → List ℕ → Type 0) (own : (b : List ℕ) → Bytes b → judge_image_of b ≡ 0 → Holds (table_of b) b) where
  -- Of the image of a table.
  of_image : (t : List ℕ) (default : ℕ → Option ℕ) → Bytes t → Writable t default → Holds t (image_of t default)
  of_image t default B W =
      subst (λ (x : List ℕ). Holds x (image_of t default)) (table_of_image t default B W)
      (own (image_of t default) (image_of_bytes t default B) (image_of_accepted t default B W))

  -- Of what compact left.
  pub of_compact : (t : List ℕ) (order D : ℕ) (room : List ℕ) → Bytes t → (compact t order D room).number ≡ 0 → Holds t (result (compact t order D room))
  of_compact t order D room B e =
      let (w, W) = compact_leaves t order D room e in
      subst (λ (b : List ℕ). Holds t b) (sym w) (of_image t (defaults t order D) B W)

  -- Of what write left, with any list that it accepts.
  pub of_write : (t ds room : List ℕ) → Bytes t → (write t ds room).number ≡ 0 → Holds t (result (write t ds room))
  of_write t ds room B e =
      let (w, W) = write_leaves t ds room e in
      subst (λ (b : List ℕ). Holds t b) (sym w) (of_image t (listed ds) B W)
