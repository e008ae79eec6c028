-- The tests of one record and of one entry as the code makes them, on what was read.
use Rattle.std.specs.Prelude.{Bool, false, not, ◌&&◌, ◌||◌, List, ℕ, zero, suc, ◌*◌, ltb, leb}
use Rattle.paper.specs.Below.{differ, given}
use Rattle.paper.specs.Words.{number16}
use Rattle.paper.specs.View.{default_bad_of}
use Rattle.image.specs.declared.Record.{Record}
use Rattle.image.specs.Forms.{default_of}

-- Ground 8 at a record: a default neither none nor below n; a count above k; no default and a count other than k.
unfoldable pub record_wrong : ℕ → ℕ → Record → Bool
record_wrong n k r =
    let d = default_of r.fallback in default_bad_of n d || (ltb k r.count || (not (given d) && differ r.count k))

-- The class of an entry of a row is not above the one before; the first has none before it.
abbrev pub falls : List ℕ → ℕ → Bool
falls row zero = false
falls row (suc j) = leb (number16 row (4 * suc j)) (number16 row (4 * j))

-- Ground 9 at an entry of a row: its class not below k, or not above the one before.
abbrev pub class_wrong : ℕ → List ℕ → ℕ → Bool
class_wrong k row j = leb k (number16 row (4 * j)) || falls row j
