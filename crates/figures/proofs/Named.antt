-- Counting the states that have a default, one by one.
use mathlib.Core.Path.{◌≡◌, sym, ap, ◌∙◌}
use mathlib.Core.List.{List}
use mathlib.Core.Option.{Option}
use Prim.Native.Nat.{ℕ, ◌+◌, ◌*◌, ◌≤◌, ◌<◌}
use native.Mathlib.Numerals.{add-one}
use native.Mathlib.Omega.{arith}
use Rattle.paper.specs.Below.{how_many_of, bit, given}
use Rattle.paper.specs.Image.{states, records_at_of, default}
use Rattle.paper.proofs.Counts.{bit_le}
use Rattle.image.specs.Forms.{default_of, record_at_of}
use Rattle.image.specs.declared.Record.{Record}
use Rattle.image.proofs.Cases.{record_default}

module _ (b : List ℕ) where
  -- How many of the first i states have a default.
  abbrev pub named : ℕ → ℕ
  named i = how_many_of i (λ s. given (default b s))

  -- Of the first i states so many have a default.
  abbrev pub Named : ℕ → ℕ → Type 0
  Named i count = (i ≤ states b) × (count ≡ named i) × (count ≤ i)

  -- One state more: its record counts one where it falls to another.
  pub named_more : (i count one : ℕ) (r : Record) → Named i count → i < states b → r ≡ record_at_of b (records_at_of b + 4 * i) → one ≡ bit (given (default_of r.fallback)) → Named (i + 1) (count + one)
  named_more i count one r (h, e, l) less q f =
      let here : bit (given (default b i)) ≡ one = ap (λ (o : Option ℕ). bit (given o)) (record_default b i r q) ∙ sym f in
      (omega arith, rw (add-one i) (omega (arith, here)), omega (arith, here, bit_le (given (default b i))))
