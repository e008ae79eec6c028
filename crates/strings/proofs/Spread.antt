-- Rows by class, spread out by byte: on a byte stands what the row has on the byte's class. So the laws of rows by byte are laws of rows by class.
use mathlib.Core.Path.{◌≡◌, sym, ap, ap₂, ◌∙◌}
use mathlib.Core.Bool.{true, false, cond, true≢false}
use mathlib.Core.Logic.{◌⊎◌, inl, inr}
use mathlib.Core.List.{List}
use Prim.Native.Nat.{ℕ, ◌+◌, ◌*◌, ◌/◌, ◌%◌, ◌≤◌, ◌<◌}
use native.Mathlib.Decide.{ℕ_discrete, dec_lt}
use native.Mathlib.Omega.{arith}
use lib.Dec.{eqb}
use lib.ListN.{length, get_or, set, length-set, get_or-eq_default}
use lib.Seq.{get_or-set_same, get_or-set_other, ext_get_or}
use Rattle.paper.specs.Below.{list}
use Rattle.paper.specs.Strings as given
use Rattle.paper.specs.Strings.{Rule, used, class_of}
use Rattle.paper.proofs.Filled.{Filled}
use Rattle.paper.proofs.Lists.{length-list, get_or-list}
use Rattle.strings.proofs.Classes.{class_below, class_decides}
use Rattle.strings.proofs.RowsFilled.{RowFilled}
use Rattle.strings.proofs.LevelTurn.{link_read_of}

-- The class of every byte is one of the first k.
abbrev pub Columns : List ℕ → ℕ → Type 0
Columns classes k = (x : ℕ) → x < 256 → get_or classes x 0 < k

-- A byte has its class for itself.
abbrev pub Alone : List ℕ → ℕ → Type 0
Alone classes a = (x : ℕ) → x < 256 → get_or classes x 0 ≡ get_or classes a 0 → x ≡ a

module _ (rs : List Rule) (classes : List ℕ) (F : Filled (class_of rs) classes 256) where
  -- The classes of a word list are its columns,
  pub classed_columns : Columns classes (given.classes rs)
  classed_columns x h = omega (arith, F x h, class_below rs x h)

  -- and a byte that stands in a string has its class for itself.
  pub classed_alone : (a : ℕ) → a < 256 → used rs a ≡ true → Alone classes a
  classed_alone a ha u x hx e = go (class_decides rs x a hx ha (sym (F x hx) ∙ e ∙ F a ha))
    where
      go : (x ≡ a) ⊎ ((used rs x ≡ false) × (used rs a ≡ false)) → x ≡ a
      go (inl q) = q
      go (inr (_, q)) = absurd (true≢false (sym u ∙ q))

-- The rows of 512 states by byte.
unfoldable pub spread : List ℕ → List ℕ → List ℕ
spread classes rows = list 131072 (λ i. get_or rows (i / 256 * 256 + get_or classes (i % 256) 0) 0)

module _ (classes rows : List ℕ) where
  -- They have a place for each state and byte,
  pub spread_length : length (spread classes rows) ≡ 131072
  unfolding spread
  spread_length = length-list 131072 (λ i. get_or rows (i / 256 * 256 + get_or classes (i % 256) 0) 0)

  spread_at : (i : ℕ) → i < 131072 → get_or (spread classes rows) i 0 ≡ get_or rows (i / 256 * 256 + get_or classes (i % 256) 0) 0
  unfolding spread
  spread_at i h = get_or-list 131072 i (λ i. get_or rows (i / 256 * 256 + get_or classes (i % 256) 0) 0) 0 h

  -- where what stands on the class is read,
  pub spread_read : (q x : ℕ) → q < 512 → x < 256 → get_or (spread classes rows) (q * 256 + x) 0 ≡ get_or rows (q * 256 + get_or classes x 0) 0
  spread_read q x hq hx =
      let d : (q * 256 + x) / 256 ≡ q = omega arith in
      let m : (q * 256 + x) % 256 ≡ x = omega arith in
      spread_at (q * 256 + x) (omega arith) ∙ ap₂ (λ (y z : ℕ). get_or rows (y * 256 + get_or classes z 0) 0) d m

  -- and nothing behind them.
  spread_behind : (i : ℕ) → 131072 ≤ i → get_or (spread classes rows) i 0 ≡ 0
  spread_behind i h = get_or-eq_default (spread classes rows) 0 (omega (arith, spread_length))

  -- Empty rows are empty so too.
  pub spread_empty : ((i : ℕ) → get_or rows i 0 ≡ 0) → (i : ℕ) → get_or (spread classes rows) i 0 ≡ 0
  spread_empty z i = go (dec_lt i 131072)
    where
      go : Dec (i < 131072) → get_or (spread classes rows) i 0 ≡ 0
      go (yes h) = spread_at i h ∙ z (i / 256 * 256 + get_or classes (i % 256) 0)
      go (no h) = spread_behind i (omega arith)

  -- A link that is read on the class of a byte is that of the byte.
  pub spread_link : (links : List ℕ) (p a : ℕ) → get_or links p 0 < 512 → a < 256 → link_read_of rows links p (get_or classes a 0) ≡ link_read_of (spread classes rows) links p a
  unfolding link_read_of
  spread_link links p a h ha = ap (cond (eqb p 0) 0) (sym (spread_read (get_or links p 0) a h ha))

module _ (classes rows : List ℕ) (k : ℕ) (few : k ≤ 256) (C : Columns classes k) where
  -- A number that is set on the class of a byte which has it for itself is set on the byte.
  pub spread_set : (p a v : ℕ) → Alone classes a → length rows ≡ 131072 → p < 512 → a < 256
      → spread classes (set rows (p * 256 + get_or classes a 0) v) ≡ set (spread classes rows) (p * 256 + a) v
  spread_set p a v alone big hp ha =
      ext_get_or 0 (spread classes rows') (set (spread classes rows) (p * 256 + a) v)
      (spread_length classes rows' ∙ sym (length-set (spread classes rows) (p * 256 + a) v ∙ spread_length classes rows))
      (λ i h. at i (omega (arith, spread_length classes rows')) (ℕ_discrete i (p * 256 + a)))
    where
      place : ℕ
      place = p * 256 + get_or classes a 0

      rows' : List ℕ
      rows' = set rows place v

      at : (i : ℕ) → i < 131072 → Dec (i ≡ p * 256 + a) → get_or (spread classes rows') i 0 ≡ get_or (set (spread classes rows) (p * 256 + a) v) i 0
      at i h (yes e) =
          rw e (spread_read classes rows' p a hp ha ∙ get_or-set_same rows place v 0 (omega (arith, C a ha)) ∙ sym (get_or-set_same (spread classes rows) (p * 256 + a) v 0 (omega (arith, spread_length classes rows))))
      at i h (no e) =
          spread_at classes rows' i h
          ∙ get_or-set_other rows place (i / 256 * 256 + get_or classes (i % 256) 0) v 0 (λ q. e (other q))
          ∙ sym (get_or-set_other (spread classes rows) (p * 256 + a) i v 0 e ∙ spread_at classes rows i h)
        where
          other : i / 256 * 256 + get_or classes (i % 256) 0 ≡ place → i ≡ p * 256 + a
          other q =
              let m : get_or classes (i % 256) 0 ≡ get_or classes a 0 = omega (arith, C (i % 256) (omega arith), C a ha) in
              let d : i / 256 ≡ p = omega arith in
              omega (arith, alone (i % 256) (omega arith) m)

  -- A row that is filled on all classes is filled on all bytes.
  pub spread_filled : (rows' : List ℕ) (s l : ℕ) → s < 512 → l < 512 → RowFilled rows rows' s l k → RowFilled (spread classes rows) (spread classes rows') s l 256
  spread_filled rows' s l hs hl R = record {
    row = λ x hx.
        spread_read classes rows' s x hs hx
        ∙ R.row (get_or classes x 0) (C x hx)
        ∙ ap₂ (λ (y z : ℕ). cond (eqb y 0) z y) (sym (spread_read classes rows s x hs hx)) (sym (spread_read classes rows l x hl hx));
    others = λ q x hx n. stays q x hx n (dec_lt q 512);
  }
    where
      stays : (q x : ℕ) → x < 256 → ¬ (q ≡ s) → Dec (q < 512) → get_or (spread classes rows') (q * 256 + x) 0 ≡ get_or (spread classes rows) (q * 256 + x) 0
      stays q x hx n (yes h) =
          spread_read classes rows' q x h hx ∙ R.others q (get_or classes x 0) (omega (arith, C x hx)) n ∙ sym (spread_read classes rows q x h hx)
      stays q x hx n (no h) = spread_behind classes rows' (q * 256 + x) (omega arith) ∙ sym (spread_behind classes rows (q * 256 + x) (omega arith))
