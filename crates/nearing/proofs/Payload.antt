-- A whole payload in order 3: the hops and the level at the end are together at most the bytes and the level at the beginning.
use mathlib.Core.Path.{◌≡◌, ap, ◌∙◌}
use mathlib.Core.List.{List, [], ◌∷◌}
use mathlib.Core.Option.{some}
use Prim.Native.Nat.{ℕ, suc, ◌+◌, ◌≤◌, ◌<◌}
use native.Mathlib.Omega.{arith}
use lib.ListN.{length}
use Rattle.paper.specs.Words.{Bytes}
use Rattle.paper.specs.Table.{states, class_of}
use Rattle.paper.specs.View.{Found, look}
use Rattle.paper.specs.Results.{table_view}
use Rattle.paper.specs.FallBack.{level, toward_start}
use Rattle.paper.specs.Walk.{state_after}
use Rattle.paper.specs.Operations.{judge_table_of}
use Rattle.facts.proofs.TableFacts.{accepted_table}
use Rattle.running.proofs.Walk.{cost_after}
use Rattle.running.proofs.Bytewise.{target, cost}
use Rattle.nearing.proofs.Byte.{look-next, look-lower}

-- What a look-up finds at a state of level l, after at most l hops, is a state with a level, which with the hops is at most one more than l.
abbrev pub NearsFrom : List ℕ → ℕ → Found → Type 0
NearsFrom t l f = (f.target < states t) × (f.hops ≤ l) × ((m : ℕ) × (level t f.target ≡ some m) × (f.hops + m ≤ suc l))

-- A look-up finds such for every byte.
abbrev pub Nears : List ℕ → (ℕ → ℕ → Found) → (ℕ → ℕ) → Type 0
Nears t find classes = (s l x : ℕ) → s < states t → x < 256 → level t s ≡ some l → NearsFrom t l (find s (classes x))

-- The walk over bytes then costs, with the level at its end, at most as many more as there are bytes.
pub walk_nears : (t : List ℕ) (find : ℕ → ℕ → Found) (classes : ℕ → ℕ) → Nears t find classes → (xs : List ℕ) → Bytes xs → (s l : ℕ) → s < states t → level t s ≡ some l
    → (m : ℕ) × (level t (state_after (target find classes) s xs) ≡ some m) × (cost_after (target find classes) (cost find classes) s xs + m ≤ length xs + l)
walk_nears t find classes N [] B s l h q = (l, q, omega arith)
walk_nears t find classes N (x ∷ xs) B s l h q =
    let (below, _, (m, w, b)) = N s l x h (B 0) q in
    let (m', w', b') = walk_nears t find classes N xs (λ i. B (suc i)) (target find classes s x) m below w in
    (m', w', omega arith)

-- Where there is a byte it costs one less, as the last byte costs no more than the level before it.
pub walk-nearer : (t : List ℕ) (find : ℕ → ℕ → Found) (classes : ℕ → ℕ) → Nears t find classes → (xs : List ℕ) → Bytes xs → 0 < length xs → (s l : ℕ) → s < states t → level t s ≡ some l
    → cost_after (target find classes) (cost find classes) s xs < length xs + l
walk-nearer t find classes N [] B nonempty s l h q = absurd (omega arith)
walk-nearer t find classes N (x ∷ []) B nonempty s l h q = let (_, few, _) = N s l x h (B 0) q in omega arith
walk-nearer t find classes N (x ∷ y ∷ xs) B nonempty s l h q =
    let (below, _, (m, w, b)) = N s l x h (B 0) q in
    omega (arith, walk-nearer t find classes N (y ∷ xs) (λ i. B (suc i)) (omega arith) (target find classes s x) m below w)

module _ (t : List ℕ) (e : judge_table_of t ≡ 0) where
  -- The look-up of a table with the defaults of order 3 is such.
  pub table_nears : Nears t (look (table_view t (toward_start t))) (class_of t)
  table_nears s l x hs hx q =
      let A = accepted_table t e in
      let hc = A.all_classed.below x hx in
      let n = look-next t e s (class_of t x) hs hc in
      let (few, (m, w, b)) = look-lower t e s (class_of t x) l hs hc q in
      (rw n (A.inside s (class_of t x) hs hc), few, (m, ap (level t) n ∙ w, b))
