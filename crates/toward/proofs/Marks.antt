-- Marks in the array of levels: class by class for one state's row, and state by state for one round.
use mathlib.Core.Path.{◌≡◌, refl, sym, ap, ◌∙◌}
use mathlib.Core.Bool.{Bool, true, false, ◌&&◌, ◌||◌}
use mathlib.Core.List.{List}
use Prim.Native.Nat.{ℕ, zero, suc, ◌+◌, ◌≤◌, ◌<◌}
use native.Mathlib.Numerals.{add-one}
use native.Mathlib.Decide.{ℕ_discrete}
use native.Mathlib.Omega.{arith}
use lib.Dec.{eqb}
use lib.ListN.{get_or, set, length-set}
use lib.Seq.{get_or-set_same, get_or-set_other}
use borrow.Author.Tests.{eq-eqb, ne_eqb}
use Rattle.paper.specs.Below.{any}
use Rattle.paper.specs.Table.{next}
use Rattle.paper.specs.FallBack.{leads_to}
use Rattle.paper.proofs.Below.{any_found, any_none}
use Rattle.std.proofs.Common.{Option, Some, None, IfSome, unwrap_or}
use Rattle.std.specs.Option.{is_some}
use Rattle.weights.specs.Next.{Passed, Next}
use Rattle.toward.specs.Marked.{level_in, marked, Marked, finds, has}

-- A test that fails adds nothing.
or_fails : (p b : Bool) → b ≡ false → p ≡ p || b
or_fails true b z = refl
or_fails false b z = sym z

module _ (a mark : ℕ) where
  -- What had a level keeps it.
  pub marked-kept : (p : Bool) → ¬ (a ≡ 65535) → marked a p mark ≡ a
  marked-kept true n = rw (ne_eqb a 65535 n)
  marked-kept false n = refl

  -- What has no level after a mark had none, and is marked with one test more.
  mark_here : (p : Bool) → marked a p mark ≡ 65535 → mark ≡ marked a (p || true) mark
  mark_here p e = go (ℕ_discrete a 65535) p
    where
      go : Dec (a ≡ 65535) → (q : Bool) → mark ≡ marked a (q || true) mark
      go (yes w) true = rw (eq-eqb a 65535 w)
      go (yes w) false = rw (eq-eqb a 65535 w)
      go (no w) q = absurd (w (sym (marked-kept p w) ∙ e))

  -- What has one is not changed by one test more.
  mark_past : (p : Bool) → ¬ (marked a p mark ≡ 65535) → marked a p mark ≡ marked a (p || true) mark
  mark_past true n = refl
  mark_past false n = sym (marked-kept true n)

  -- Two marks with the same number are one.
  mark_twice : (p q : Bool) → ¬ (mark ≡ 65535) → marked (marked a p mark) q mark ≡ marked a (p || q) mark
  mark_twice false q n = refl
  mark_twice true q n = go (ℕ_discrete a 65535) q
    where
      go : Dec (a ≡ 65535) → (q : Bool) → marked (marked a true mark) q mark ≡ marked a true mark
      go (yes w) true = rw (eq-eqb a 65535 w, ne_eqb mark 65535 n)
      go (yes w) false = refl
      go (no w) true = rw (ne_eqb a 65535 w, ne_eqb a 65535 w)
      go (no w) false = refl

  -- A level other than the mark was there before.
  mark_old : (p : Bool) (l : ℕ) → marked a p mark ≡ l → ¬ (mark ≡ l) → a ≡ l
  mark_old false l e n = e
  mark_old true l e n = go (ℕ_discrete a 65535)
    where
      go : Dec (a ≡ 65535) → a ≡ l
      go (yes w) = absurd (n (rw (eq-eqb a 65535 w) at e))
      go (no w) = sym (marked-kept true w) ∙ e

-- The same marks by a test that says the same.
marked_by : (old new : List ℕ) (p q : ℕ → Bool) (mark : ℕ) → ((x : ℕ) → p x ≡ q x) → Marked old new p mark → Marked old new q mark
marked_by old new p q mark same M = record { long = M.long; each_is = λ x. M.each_is x ∙ ap (λ (b : Bool). marked (get_or old x 0) b mark) (same x) }

-- Some class below c leads from s to x.
abbrev pub row_leads : List ℕ → ℕ → ℕ → ℕ → Bool
row_leads t s c x = any c (λ d. eqb (next t s d) x)

module _ (t old new : List ℕ) (s c mark x : ℕ) (e : x ≡ next t s c) (M : Marked old new (row_leads t s c) mark) where
  one_class : (y : ℕ) → row_leads t s c y || eqb x y ≡ row_leads t s (c + 1) y
  one_class y = rw (add-one c, e)

  -- One class more whose next state is marked.
  pub row_hit : x < 512 → get_or new x 0 ≡ 65535 → Marked old (set new x mark) (row_leads t s (c + 1)) mark
  row_hit h q =
      marked_by old (set new x mark) (λ y. row_leads t s c y || eqb x y) (row_leads t s (c + 1)) mark one_class
      (record { long = length-set new x mark ∙ M.long; each_is = λ y. at y (ℕ_discrete x y) })
    where
      at : (y : ℕ) → Dec (x ≡ y) → get_or (set new x mark) y 0 ≡ marked (get_or old y 0) (row_leads t s c y || eqb x y) mark
      at y (yes w) =
          rw (← w, eq-eqb x x refl)
          (get_or-set_same new x mark 0 (omega (arith, M.long)) ∙ mark_here (get_or old x 0) mark (row_leads t s c x) (sym (M.each_is x) ∙ q))
      at y (no w) =
          get_or-set_other new x y mark 0 (λ z. w (sym z)) ∙ M.each_is y
          ∙ ap (λ (b : Bool). marked (get_or old y 0) b mark) (or_fails (row_leads t s c y) (eqb x y) (ne_eqb x y w))

  -- One class more whose next state has a level.
  pub row_miss : ¬ (get_or new x 0 ≡ 65535) → Marked old new (row_leads t s (c + 1)) mark
  row_miss q =
      marked_by old new (λ y. row_leads t s c y || eqb x y) (row_leads t s (c + 1)) mark one_class
      (record { long = M.long; each_is = λ y. at y (ℕ_discrete x y) })
    where
      at : (y : ℕ) → Dec (x ≡ y) → get_or new y 0 ≡ marked (get_or old y 0) (row_leads t s c y || eqb x y) mark
      at y (yes w) =
          rw (← w, eq-eqb x x refl)
          (M.each_is x ∙ mark_past (get_or old x 0) mark (row_leads t s c x) (λ z. q (M.each_is x ∙ z)))
      at y (no w) = M.each_is y ∙ ap (λ (b : Bool). marked (get_or old y 0) b mark) (or_fails (row_leads t s c y) (eqb x y) (ne_eqb x y w))

module _ (t old cur : List ℕ) (level s : ℕ) (few : level < 512) (M : Marked old cur (finds t old level s) (level + 1)) where
  -- A state that has this level had it before the round.
  own-level : get_or cur s 0 ≡ level → get_or old s 0 ≡ level
  own-level q = mark_old (get_or old s 0) (level + 1) (finds t old level s s) level (sym (M.each_is s) ∙ q) (λ z. omega arith)

  -- One that has another or none did not.
  other_level : ¬ (get_or cur s 0 ≡ level) → ¬ (get_or old s 0 ≡ level)
  other_level q z = q (M.each_is s ∙ marked-kept (get_or old s 0) (level + 1) (finds t old level s s) (λ w. omega arith) ∙ z)

  -- One state more, which has this level: its row is marked too.
  pub round_hit : (new : List ℕ) → get_or cur s 0 ≡ level → Marked cur new (leads_to t s) (level + 1) → Marked old new (finds t old level (s + 1)) (level + 1)
  round_hit new q R =
      record {
        long = R.long;
        each_is = λ x.
            R.each_is x ∙ ap (λ (a : ℕ). marked a (leads_to t s x) (level + 1)) (M.each_is x)
            ∙ mark_twice (get_or old x 0) (level + 1) (finds t old level s x) (leads_to t s x) (λ z. omega arith)
            ∙ rw (add-one s, eq-eqb (get_or old s 0) level (own-level q));
      }

  -- One state more, which has another level or none.
  pub round_miss : ¬ (get_or cur s 0 ≡ level) → Marked old cur (finds t old level (s + 1)) (level + 1)
  round_miss q =
      marked_by old cur (finds t old level s) (finds t old level (s + 1)) (level + 1)
      (λ x.
      or_fails (finds t old level s x) (eqb (get_or old s 0) level && leads_to t s x) (ap (λ (b : Bool). b && leads_to t s x) (ne_eqb (get_or old s 0) level (other_level q)))
      ∙ rw (add-one s))
      M

-- States that have another level or none are passed over.
pub round_passed : (t old cur : List ℕ) (level : ℕ) → level < 512 → (s r : ℕ) → s ≤ r → Passed (level_in cur) s level r
    → Marked old cur (finds t old level s) (level + 1) → Marked old cur (finds t old level r) (level + 1)
round_passed t old cur level few s zero l P M = let e : s ≡ 0 = omega arith in rw e at M
round_passed t old cur level few s (suc r) l P M =
    elim (ℕ_discrete s (suc r)) [
      | yes e ↦ rw e at M
      | no e ↦
          let before = round_passed t old cur level few s r (omega arith) (λ j h k. P j h (omega arith)) M in
          rw (add-one r) at (round_miss t old cur level r few before (P r (omega arith) (omega arith)))
    ]

-- So they are up to the next one of this level, or to the end where there is none.
pub round_sought : (t old cur : List ℕ) (level n : ℕ) → level < 512 → (s : ℕ) (r : Option ℕ) → s ≤ n → Next n (level_in cur) s level r
    → Marked old cur (finds t old level s) (level + 1) → Marked old cur (finds t old level (unwrap_or r n)) (level + 1)
round_sought t old cur level n few s None l P M = round_passed t old cur level few s n l P M
round_sought t old cur level n few s (Some v) l P M = round_passed t old cur level few s v P.0 P.3 M

-- The next one is behind those passed.
pub next_behind : (n : ℕ) (line : ℕ → ℕ) (from w : ℕ) (r : Option ℕ) → from ≤ n → Next n line from w r → from ≤ unwrap_or r n
next_behind n line from w None l P = l
next_behind n line from w (Some v) l P = P.0

-- What is known of it, where there is one.
pub next_place : (n : ℕ) (line : ℕ → ℕ) (from w : ℕ) (r : Option ℕ) → Next n line from w r → IfSome r (λ v. (v < n) × (line v ≡ w))
next_place n line from w None P = tt
next_place n line from w (Some v) P = (P.1, P.2)

-- Some state has this level where there is a first that has it.
pub has_first : (levels : List ℕ) (level n : ℕ) (r : Option ℕ) → Next n (level_in levels) 0 level r → is_some r ≡ has levels level n
has_first levels level n None P = sym (any_none n (λ s. eqb (level_in levels s) level) (λ s k. ne_eqb (level_in levels s) level (P s (omega arith) k)))
has_first levels level n (Some r) P = sym (any_found n r (λ s. eqb (level_in levels s) level) P.1 (eq-eqb (level_in levels r) level P.2))
