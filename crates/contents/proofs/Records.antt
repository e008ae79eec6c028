-- Ground 8 at the records of an image.
use mathlib.Core.Path.{◌≡◌, ◌∙◌}
use mathlib.Core.Bool.{Bool, true, or-true, or-false}
use mathlib.Core.List.{List}
use Prim.Native.Nat.{ℕ, ◌+◌, ◌*◌, ◌≤◌, ◌<◌}
use native.Mathlib.Numerals.{add-one}
use native.Mathlib.Omega.{arith}
use lib.Dec.{leb}
use borrow.Author.Tests.{lt-ltb, le-ltb}
use Rattle.paper.specs.Below.{sum, differ}
use Rattle.paper.specs.Words.{number16}
use Rattle.paper.specs.View.{record_bad_of}
use Rattle.paper.specs.Image.{states, classes, records_at_of, default, count, image_view}
use Rattle.image.specs.declared.Record.{Record}
use Rattle.std.specs.Prelude.{None, Some}
use Rattle.image.specs.Forms.{record_at_of}
use Rattle.image.proofs.Cases.{default_from}
use Rattle.contents.specs.Counted.{Counted, Records}
use Rattle.contents.specs.Tests.{record_wrong}

module _ (n k : ℕ) (r : Record) where
  -- A count above k.
  pub record_high : k < r.count → true ≡ record_wrong n k r
  unfolding record_wrong
  record_high h = rw (lt-ltb k r.count h, or-true)

  -- A count up to k without a default.
  pub record_root : r.count ≤ k → r.fallback ≡ None → differ r.count k ≡ record_wrong n k r
  unfolding record_wrong
  record_root h e = rw (e, le-ltb k r.count h)

  -- A count up to k with a default.
  pub record_falls : (d : ℕ) → r.count ≤ k → r.fallback ≡ Some d → leb n d ≡ record_wrong n k r
  unfolding record_wrong
  record_falls d h e = rw (e, le-ltb k r.count h, or-false)

-- The record at a state's place is wrong just where the state's record is.
record_wrong_is : (b : List ℕ) (s : ℕ) → record_wrong (states b) (classes b) (record_at_of b (records_at_of b + 4 * s)) ≡ record_bad_of (image_view b) s
unfolding record_wrong default count
record_wrong_is b s = rw (default_from (number16 b (records_at_of b + 4 * s)))

-- The records of an image with its counts stand in it.
pub records_stand : (b : List ℕ) (n m records : ℕ) → Counted b n m → records ≡ records_at_of b → Records b n records
records_stand b n m records C e =
    record {
      states_are = C.states_are;
      few_states = C.few_states;
      begin = e;
      inside = omega (arith, C.long, C.states_are, C.entries_are);
    }

module _ (b : List ℕ) (n records : ℕ) (R : Records b n records) where
  -- So what is answered of a record that was read there.
  pub record_read : (k : ℕ) → k ≡ classes b → (s : ℕ) (r : Record) (answer : Bool) → r ≡ record_at_of b (records + 4 * s) → answer ≡ record_wrong n k r → answer ≡ record_bad_of (image_view b) s
  record_read k ek s r answer er ea = ea ∙ rw (er, ek, R.begin, R.states_are) (record_wrong_is b s)

  -- A count more is added to the sum of those before.
  pub sum_more : (s total c : ℕ) → total ≡ sum s (count b) → c ≡ number16 b (records + 4 * s + 2) → total + c ≡ sum (s + 1) (count b)
  unfolding count
  sum_more s total c e q = rw (add-one s, e, q, R.begin)
