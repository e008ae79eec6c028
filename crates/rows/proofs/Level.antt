-- One state of a level: what the code asks before it fills it, and what stands afterwards. The rows are by class, and what holds of them holds by byte.
use Rattle.std.proofs.Common.{◌≡◌, ℕ, ◌+◌, ◌≤◌, ◌<◌, List, length, get_or, set, sym, ◌∙◌, arith}
use Rattle.paper.specs.Strings.{Rule}
use Rattle.strings.proofs.RowsFilled.{RowFilled, Filled}
use Rattle.strings.proofs.LinkStates.{link}
use Rattle.strings.proofs.LevelTurn.{link_read_of, Prepared, turn_far, turn_link, turn_bounds, turn_more}
use Rattle.strings.proofs.Spread.{Columns, spread, spread_link, spread_filled}

module _ (rs : List Rule) (parent last long : List ℕ) (n : ℕ) (P : Prepared rs parent last long n) (classes : List ℕ) (k : ℕ) (few : k ≤ 256) (C : Columns classes k) (rows links : List ℕ)
    (L s : ℕ) (hs : s < n) (F : Filled rs (spread classes rows) links L s) (deep : get_or long s 0 ≡ L) (up : 0 < L) where
  -- The parent of the state, and its last byte with that byte's class.
  abbrev p : ℕ
  p = get_or parent s 0

  abbrev b : ℕ
  b = get_or last s 0

  abbrev a : ℕ
  a = get_or classes b 0

  bounds : (p < n) × (get_or links p 0 < n) × (link rs s < n) × (¬ (link rs s ≡ s))
  bounds = turn_bounds rs parent last long n P (spread classes rows) links L s hs F deep up

  -- The last byte is one.
  byte : b < 256
  byte = omega (arith, P.small s (turn_far rs parent last long n P (spread classes rows) links L s hs F deep up) hs)

  -- What is read is the link.
  read_is : link_read_of rows links p a ≡ link rs s
  read_is =
      spread_link classes rows links p b (omega (arith, P.few, bounds.1)) byte
      ∙ turn_link rs parent last long n P (spread classes rows) links L s hs F deep up

  -- Everything that is looked at is a state.
  pub level_asks : (s < 512) × (p < 512) × (a < 256) × (get_or links p 0 < 512) × (link_read_of rows links p a < 512) × (¬ (link_read_of rows links p a ≡ s))
  level_asks = (
    omega (arith, P.few),
    omega (arith, P.few, bounds.0),
    omega (arith, C b byte),
    omega (arith, P.few, bounds.1),
    omega (arith, P.few, read_is, bounds.2),
    λ q. bounds.3 (sym read_is ∙ q),
  )

  -- With its link set down and its row filled the state is done.
  pub level_more : (rows' links' : List ℕ) → length links ≡ 512 → RowFilled rows rows' s (link_read_of rows links p a) k → links' ≡ set links s (link_read_of rows links p a)
      → Filled rs (spread classes rows') links' L (s + 1)
  level_more rows' links' big R e =
      rw e (turn_more rs parent last long n P (spread classes rows) links L s hs F deep up (spread classes rows') (link_read_of rows links p a) big read_is
      (spread_filled classes rows k few C rows' s (link_read_of rows links p a) level_asks.0 level_asks.4 R))
