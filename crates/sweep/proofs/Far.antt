-- The most that is kept in rows of two: 1024 more than the largest hops of all states and the classes so far.
use mathlib.Core.Path.{◌≡◌, ap}
use mathlib.Core.List.{List}
use Prim.Native.Nat.{ℕ, ◌+◌, ◌-◌, ◌*◌, ◌/◌, ◌≤◌, ◌<◌, max}
use native.Mathlib.Decide.{dec_lt}
use native.Mathlib.Omega.{arith}
use lib.ListN.{get_or}
use Rattle.paper.specs.Below.{largest}
use Rattle.paper.specs.View.{View, look}
use Rattle.paper.proofs.Below.{largest_upper, largest_least}
use Rattle.paper.proofs.Look.{hops_of, serves_look}
use Rattle.chains.proofs.Far.{Far, far_more}
use Rattle.abreast.specs.Keeps.{Keeps, RowKeeps}

module _ {v : View} {n : ℕ} (counted : v.states ≡ n) where
  -- What a cell keeps for a class is 1024 more than the hops.
  cell_hops : (s c t h : ℕ) → Keeps v n s c t h → c < v.classes → h ≡ 1024 + (look v s c).hops
  cell_hops s c t h K l =
      let S = K.known l in
      omega (arith, S.far, ap hops_of (serves_look v c v.states s S.server S.hops t S.serves (omega (arith, S.near, counted))))

  module _ {first most : ℕ} (to hop : List ℕ) (few : n ≤ 512) (F : Far v n v.classes 1024 first most) (R : (s : ℕ) → s < n → RowKeeps v first to hop n s) where
    -- The cell of a state and a class of the two is among the rows.
    cell_over : (s c : ℕ) → s < n → c < v.classes → first ≤ c → c < first + 2 → 1024 + (look v s c).hops ≤ largest (2 * n) (λ i. get_or hop i 0)
    cell_over s c hs hc b l =
        let q = c - first in
        let cq : first + q ≡ c = omega arith in
        let h = cell_hops s (first + q) (get_or to (2 * s + q) 0) (get_or hop (2 * s + q) 0) (R s hs q (omega arith)) (omega arith) in
        omega (arith, h, ap (λ (x : ℕ). (look v s x).hops) cq, largest_upper (2 * n) (2 * s + q) (λ i. get_or hop i 0) (omega arith))

    -- A cell of the rows is not above what bounds the hops of the two classes too.
    cell_under : (x : ℕ) → 1024 ≤ x → ((s c : ℕ) → s < n → c < v.classes → c < first + 2 → 1024 + (look v s c).hops ≤ x) → (i : ℕ) → i < 2 * n → get_or hop i 0 ≤ x
    cell_under x h u i l =
        let s = i / 2 in
        let q = i - 2 * s in
        let e : i ≡ 2 * s + q = omega arith in
        let hs : s < n = omega arith in
        let hq : q < 2 = omega arith in
        go s q hs hq (R s hs q hq) (ap (λ (y : ℕ). get_or hop y 0) e) (dec_lt (first + q) v.classes)
      where
        go : (s q : ℕ) → s < n → q < 2 → Keeps v n s (first + q) (get_or to (2 * s + q) 0) (get_or hop (2 * s + q) 0) → get_or hop i 0 ≡ get_or hop (2 * s + q) 0 → Dec (first + q < v.classes) → get_or hop i 0 ≤ x
        go s q hs hq K z (yes k) = omega (arith, z, cell_hops s (first + q) (get_or to (2 * s + q) 0) (get_or hop (2 * s + q) 0) K k, u s (first + q) hs k (omega arith))
        go s q hs hq K z (no k) = omega (arith, z, K.beyond (omega arith))

    -- Two classes more.
    pub far_two : (more : ℕ) → more ≡ max most (largest (2 * n) (λ i. get_or hop i 0)) → Far v n v.classes 1024 (first + 2) more
    far_two more e =
        far_more (first + 2) (largest (2 * n) (λ i. get_or hop i 0)) more (omega arith) F e cell_over
        (λ x h u. largest_least (2 * n) x (λ i. get_or hop i 0) (cell_under x h u))
