-- The rows that the states of a view fall from and where their entries wait, before the first class.
use Rattle.std.specs.Prelude.{◌≡◌, List, ℕ, ◌<◌, length}
use Rattle.std.proofs.Math.Option.{Option, none, some}
use Rattle.paper.specs.View.{View}
use Rattle.abreast.specs.Keeps.{Above, StandsIn}

-- The row of a default: row 512 where there is none.
abbrev pub row_of : Option ℕ → ℕ
row_of none = 512
row_of (some d) = d

-- All entries of all states wait, each in the bytes of its state.
pub record Opened (v : View) (bytes : ℕ → List ℕ) (n : ℕ) (up place left wait : List ℕ) : Type 0 where
  pub up_long : length up ≡ 512
  pub place_long : length place ≡ 512
  pub left_long : length left ≡ 512
  pub wait_long : length wait ≡ 512
  pub above : Above v n up
  pub stands : (s : ℕ) → s < n → StandsIn v bytes 0 place left wait s
