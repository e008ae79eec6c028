-- The best of some pairs: by the smaller key, then by the states.
use Rattle.std.specs.Prelude.{◌≡◌, Bool, true, cond, ltb, ◌⊎◌, Option, Some, None, IfSome, ℕ, ◌<◌}
use Rattle.paper.specs.BestPair.{Earlier}
use Rattle.best.specs.declared.Pick.{Pick}

-- The key of the pair found, 65536 where there is none, which is above every key.
abbrev pub key_found : Option Pick → ℕ
key_found None = 65536
key_found (Some p) = p.key

-- What is found where a search ends with this pair in hand: the pair, or nothing where its key is 65536.
abbrev pub found_of : Pick → Option Pick
found_of p = cond (ltb p.key 65536) (Some p) None

-- The pair (x, y) stands in row i, before the place j.
abbrev pub InRow : ℕ → ℕ → ℕ → ℕ → Type 0
InRow i j x y = (x ≡ i) × (y < j)

module _ (n : ℕ) (fits : ℕ → ℕ → Bool) (key : ℕ → ℕ → ℕ) where
  -- The pair found goes ahead of (x, y): its key is smaller, or they tie and it stands before. Where none is found it goes ahead of no pair.
  abbrev pub First : Option Pick → ℕ → ℕ → Type 0
  First None x y = ⊥
  First (Some p) x y = (p.key < key x y) ⊎ ((p.key ≡ key x y) × Earlier (p.u, p.v) (x, y))

  module _ (among : ℕ → ℕ → Type 0) where
    -- The pair is among those, it fits, and its key is its own.
    pub record Found (p : Pick) : Type 0 where
      pub rising : p.u < p.v
      pub inside : p.v < n
      pub member : among p.u p.v
      pub fit : fits p.u p.v ≡ true
      pub keyed : p.key ≡ key p.u p.v

    -- It goes ahead of all of those that fit; where none is found none of them fits.
    abbrev pub Leads : Option Pick → Type 0
    Leads found = (x y : ℕ) → x < y → y < n → among x y → fits x y ≡ true → First found x y

    -- It is the best of those, or none of them fits and there is none.
    pub record Picked (found : Option Pick) : Type 0 where
      pub one : IfSome found Found
      pub ahead : Leads found
