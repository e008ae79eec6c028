-- Each tree turned to its root, one state after the other.
use mathlib.Core.Path.{◌≡◌, sym, ◌∙◌, ap}
use mathlib.Core.Bool.{true, false, true≢false}
use mathlib.Core.List.{List}
use Prim.Native.Nat.{ℕ, ◌+◌, ◌-◌, ◌≤◌, ◌<◌}
use native.Mathlib.Omega.{arith}
use native.Mathlib.Decide.{dec_lt, ℕ_discrete}
use lib.Dec.{ltb, eqb}
use lib.ListN.{get_or}
use borrow.Author.Tests.{lt-ltb, le-ltb, eq-eqb, ne_eqb}
use Rattle.paper.specs.Forest.{Trees, neighbours, lean, is_root_of}
use Rattle.trees.proofs.Metric.{Metric}
use Rattle.trees.proofs.Inside.{Inside}
use Rattle.trees.proofs.Neighbours.{neighbours_le}
use Rattle.trees.proofs.Roots.{is_root_one}
use Rattle.joining.specs.Rooted.{Low, Turned}
use Rattle.joining.specs.Held.{Held}
use Rattle.joining.proofs.Held.{turned_here, turned_elsewhere, turned_held}
use Rattle.forest.specs.Beside.{NeighboursIn}
use Rattle.forest.specs.Settled.{root_in, Settles}
use Rattle.forest.proofs.Every.{every_same}
use Rattle.forest.proofs.Beside.{counted_neighbours}

-- More neighbours are a smaller lean, for numbers of neighbours up to n.
lean_less : (n a b : ℕ) → a ≤ n → b ≤ n → ltb b a ≡ ltb (n - a) (n - b)
lean_less n a b la lb =
    elim (dec_lt b a) [
      | yes l ↦ lt-ltb b a l ∙ sym (lt-ltb (n - a) (n - b) (omega arith))
      | no l ↦ le-ltb b a (omega arith) ∙ sym (le-ltb (n - a) (n - b) (omega arith))
    ]

-- Equally many are the same.
lean_same : (n a b : ℕ) → a ≤ n → b ≤ n → eqb b a ≡ eqb (n - a) (n - b)
lean_same n a b la lb =
    elim (ℕ_discrete b a) [
      | yes e ↦ eq-eqb b a e ∙ sym (eq-eqb (n - a) (n - b) (omega arith))
      | no ne ↦ ne_eqb b a ne ∙ sym (ne_eqb (n - a) (n - b) (λ q. ne (omega arith)))
    ]

-- Where the arrays hold the trees and the neighbours are counted, they say which state is a root.
root_held : (n : ℕ) → n ≤ 512 → (F : Trees) → Metric F → Inside n F → (far parent tree near : List ℕ) → Held n F far parent tree
    → NeighboursIn parent near n → (x : ℕ) → x < n → root_in far tree near n x ≡ is_root_of n (lean n) F x
unfolding is_root_of
root_held n few F M I far parent tree near H N x xb =
    let count : (y : ℕ) → y < n → get_or near y 0 ≡ neighbours n F y = λ y yb. N y (omega arith) ∙ counted_neighbours n F M I far parent tree H y yb in
    every_same n _ _ (λ z zb.
    rw (
      H.numbers x xb,
      H.numbers z zb,
      H.farthest x xb,
      H.farthest z zb,
      count x xb,
      count z zb,
      lean_less n (neighbours n F x) (neighbours n F z) (neighbours_le n F x) (neighbours_le n F z),
      lean_same n (neighbours n F x) (neighbours n F z) (neighbours_le n F x) (neighbours_le n F z),
    ))

module _ (n : ℕ) (few : n ≤ 512) (far old tree : List ℕ) where
  -- At the start no root is looked for.
  pub settles_start : Low old → Settles n far old tree old 0
  settles_start low = record { low = low; settled = λ F M I H. record { held = H; roots = λ r l. absurd (omega arith) } }

  module _ (near : List ℕ) (N : NeighboursIn old near n) (new : List ℕ) (x : ℕ) (xb : x < n) (S : Settles n far old tree new x) where
    -- A state that is no root is passed.
    pub settles_past : root_in far tree near n x ≡ false → Settles n far old tree new (x + 1)
    settles_past e =
        record {
          low = S.low;
          settled = λ F M I H.
              let s = S.settled F M I H in
              record {
                held = s.held;
                roots = λ r l rb t. elim (ℕ_discrete r x) [
                  | yes q ↦ absurd (true≢false (sym (root_held n few F M I far old tree near H N x xb ∙ rw q at t) ∙ e))
                  | no ne ↦ s.roots r (omega arith) rb t
                ];
              };
        }

    -- The tree of a root is turned to it.
    pub settles_turned : root_in far tree near n x ≡ true → (next : List ℕ) → Low next → Turned new x (get_or far x 0) next → Settles n far old tree next (x + 1)
    settles_turned e next low T =
        record {
          low = low;
          settled = λ F M I H.
              let s = S.settled F M I H in
              let root : is_root_of n (lean n) F x ≡ true = sym (root_held n few F M I far old tree near H N x xb) ∙ e in
              record {
                held = turned_held n F M I far new tree next s.held x xb T;
                roots = λ r l rb t. elim (ℕ_discrete (F.tree x) (F.tree r)) [
                  | yes m ↦ rw (← is_root_one n (lean n) F x r xb rb m root t) (turned_here n F M I far new tree next s.held x xb T)
                  | no ne ↦ turned_elsewhere n F M I far new tree next s.held x xb T r ne
                      (s.roots r (elim (ℕ_discrete r x) [ yes q ↦ absurd (ne (ap F.tree (sym q))) | no k ↦ omega arith ]) rb t)
                ];
              };
        }
