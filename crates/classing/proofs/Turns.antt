-- Whether some byte has no mark, and the classes byte by byte, over plain values.
use Rattle.std.proofs.Common.{◌≡◌, ℕ, ◌+◌, ◌≤◌, ◌<◌, Bool, true, false, not, List, length, length-set, get_or, refl, sym, ap, ◌∙◌, arith, below_more}
use mathlib.Core.Bool.{beq}
use lib.ListN.{set}
use lib.Seq.{get_or-set_other}
use Rattle.std.specs.List.{IsAnyAnswer}
use Rattle.std.specs.Int.{from_bool}
use Rattle.paper.specs.Below.{bit, how_many_of}
use Rattle.paper.specs.Strings.{Rule, spare, used, class_of}
use Rattle.paper.proofs.Below.{any_found, any_none}
use Rattle.paper.proofs.Counts.{count_le}
use Rattle.paper.proofs.Filled.{Filled, fill_more}
use Rattle.strings.proofs.Classes.{class_below, classes_most, spare_le}
use Rattle.strings.proofs.Marked.{Marked, spare-marked, class_takes, class_skips}

-- A mark that is asked for by comparing with false.
not_set : (b : Bool) → beq b false ≡ not b
not_set true = refl
not_set false = refl

-- Whether some byte is not marked, as `contains` says it: so a class is kept.
pub spare_is : (rs : List Rule) (marks : List Bool) (found : Bool) → length marks ≡ 256 → Marked rs marks → IsAnyAnswer (λ y b. beq y false ≡ b) marks found → from_bool found ≡ spare rs
spare_is rs marks true l M (k, h, t) =
    ap bit (sym (any_found 256 k (λ x. not (get_or marks x false)) (omega arith) (sym (not_set (get_or marks k false)) ∙ t false))) ∙ spare-marked rs marks M
spare_is rs marks false l M f =
    ap bit (sym (any_none 256 (λ x. not (get_or marks x false)) (λ i h. sym (not_set (get_or marks i false)) ∙ f i false (omega arith) (omega arith)))) ∙ spare-marked rs marks M

-- The classes of the first x bytes are noted, `count` is the next class, and nothing is noted behind them.
pub record Noted (rs : List Rule) (of : List ℕ) (count x : ℕ) : Type 0 where
  pub room : length of ≡ 256
  pub next : count ≡ spare rs + how_many_of x (used rs)
  pub noted : Filled (class_of rs) of x
  pub rest : (q : ℕ) → x ≤ q → q < 256 → get_or of q 0 ≡ 0

module _ (rs : List Rule) (of : List ℕ) (count x : ℕ) (h : x < 256) (N : Noted rs of count x) where
  -- There are not many classes yet.
  pub few_so_far : count ≤ 257
  few_so_far = omega (arith, N.next, spare_le rs, count_le x (used rs))

  -- The class of a byte in use is a byte.
  pub class_small : used rs x ≡ true → count < 256
  class_small u = omega (arith, (class_takes rs x count u N.next).0, class_below rs x h, classes_most rs)

  -- A byte in use takes the next class.
  pub noted_used : used rs x ≡ true → Noted rs (set of x count) (count + 1) (x + 1)
  noted_used u =
      let (p, r) = class_takes rs x count u N.next in
      record {
        room = length-set of x count ∙ N.room;
        next = r;
        noted = fill_more (class_of rs) of x count (omega (arith, N.room)) p N.noted;
        rest = λ q l m. get_or-set_other of x q count 0 (λ e. absurd (omega arith)) ∙ N.rest q (omega arith) m;
      }

  -- Any other has class 0.
  pub noted_unused : used rs x ≡ false → Noted rs of count (x + 1)
  noted_unused u =
      let (p, r) = class_skips rs x count u N.next in
      record {
        room = N.room;
        next = r;
        noted = below_more (λ q. get_or of q 0 ≡ class_of rs q) x N.noted (N.rest x (omega arith) h ∙ p);
        rest = λ q l m. N.rest q (omega arith) m;
      }
