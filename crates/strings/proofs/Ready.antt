-- From the arrays with all names in them to the rows of the table: where the filling begins, how long it goes on, and what is written out.
use mathlib.Core.Path.{◌≡◌, ap}
use mathlib.Core.List.{List}
use Prim.Native.Nat.{ℕ, ◌+◌, ◌*◌, ◌≤◌, ◌<◌}
use native.Mathlib.Omega.{arith}
use lib.ListN.{length, get_or, length-append}
use Rattle.paper.specs.Strings.{Rule, rules, names}
use Rattle.strings.proofs.Among.{among-get_or}
use Rattle.strings.proofs.Names.{Begins, names_begin}
use Rattle.strings.proofs.Stands.{goes}
use Rattle.strings.proofs.Listed.{one_of_rules}
use Rattle.strings.proofs.Shape.{Shaped}
use Rattle.strings.proofs.Places.{string-length}
use Rattle.strings.proofs.LinkStates.{name}
use Rattle.strings.proofs.Grow.{Grown}
use Rattle.strings.proofs.RowsFilled.{Filled, filled_first, filled_all}
use Rattle.strings.proofs.LevelTurn.{Prepared}

module _ (rs : List Rule) (rows parent last long : List ℕ) (G : Grown (names rs) rows parent last long) where
  -- Arrays that hold all names are prepared for the filling.
  pub grown_prepared : 0 < length rs → (n : ℕ) → length (names rs) ≡ n → n ≤ 512 → ((s : ℕ) → 0 < s → s < n → get_or last s 0 < 256) → Prepared rs parent last long n
  grown_prepared some n e few small = record {
    some = some;
    count = e;
    few = few;
    trie = G.trie;
    small = small;
    longs = λ s h. G.longs s (omega arith);
  }

  -- The filling begins with the names of length 1.
  pub grown_filled : (links : List ℕ) → get_or links 0 0 ≡ 0 → Filled rs rows links 1 0
  grown_filled links z = filled_first rs rows links z G.kids.children

-- No name of a word list is longer than 32 bytes, so the filling ends before length 33.
pub names_short : (b : List ℕ) → Shaped b → (q : ℕ) → q < length (names (rules b)) → length (name (rules b) q) < 33
names_short b S q h =
    let w : List ℕ = name (rules b) q in
    let (i, hi, (u, e)) = (one_of_rules (Begins w) b).0 ((names_begin (rules b) w).0 (among-get_or (names (rules b)) q h)) in
    omega (arith, ap length e, length-append w u, string-length b S.ending i hi, (S.sizes i hi).1)

-- What stands in the filled rows is where each byte leads.
pub rows_lead : (b : List ℕ) → Shaped b → (rows links : List ℕ) → Filled (rules b) rows links 33 0 → (q x : ℕ) → q < length (names (rules b)) → x < 256
    → get_or rows (q * 256 + x) 0 ≡ goes (rules b) q x
rows_lead b S rows links F = filled_all (rules b) rows links 33 F (names_short b S)
