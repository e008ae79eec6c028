-- Where defaults are dropped no look-up takes more hops, in any two views.
use mathlib.Core.Path.{◌≡◌, refl, ap}
use mathlib.Core.Logic.{◌⊎◌, inl, inr}
use mathlib.Core.Option.{Option, none, some}
use Prim.Native.Nat.{ℕ, zero, suc, ◌≤◌}
use native.Mathlib.Omega.{arith}
use Rattle.paper.specs.View.{View, Found, here, further, served, stored, look_up_of}
use Rattle.paper.proofs.Tests.{none≢some}
use Rattle.paper.proofs.Look.{farther, hops_of}

-- A look-up finds something in no more hops than r.
abbrev pub NoFarther : Option Found → Found → Type 0
NoFarther o r = (q : Found) × (o ≡ some q) × (q.hops ≤ r.hops)

-- After defaults were dropped a state stores the class, or it is as before: neither stores the class, and the default is the same.
abbrev pub AsBefore : View → View → ℕ → ℕ → Type 0
AsBefore v w s c = ((x : ℕ) × (stored w s c ≡ some x)) ⊎ ((stored w s c ≡ none) × (stored v s c ≡ none) × (w.default s ≡ v.default s))

-- What the default finds is what it found, one hop nearer.
further_some : (o : Option Found) (r : Found) → further o ≡ some r → (q : Found) × (o ≡ some q) × (suc q.hops ≡ r.hops)
further_some none r e = absurd (none≢some none r refl e)
further_some (some q) r e = (q, refl, ap hops_of e)

module _ (v w : View) (c : ℕ) (before : (s : ℕ) → AsBefore v w s c) where
  -- No look-up takes more hops than before.
  pub no_farther : (left s : ℕ) (r : Found) → look_up_of v left s c ≡ some r → NoFarther (look_up_of w left s c) r
  no_farther zero s r e = absurd (none≢some none r refl e)
  no_farther (suc left) s r e = go (before s) (v.default s) refl (no_farther left)
    where
      go : AsBefore v w s c → (o : Option ℕ) → v.default s ≡ o → ((d : ℕ) (q : Found) → look_up_of v left d c ≡ some q → NoFarther (look_up_of w left d c) q)
          → NoFarther (served s (stored w s c) (w.default s) (λ d. look_up_of w left d c)) r
      go (inl (x, h)) o p ih = rw h (here s x, refl, omega arith)
      go (inr (h, k, m)) none p ih = let z : none ≡ some r = rw (k, p) at e in absurd (none≢some none r refl z)
      go (inr (h, k, m)) (some d) p ih =
          let z : further (look_up_of v left d c) ≡ some r = rw (k, p) at e in
          let (q, f, l) = further_some (look_up_of v left d c) r z in
          let (u, g, b) = ih d q f in
          rw (h, m, p, g) (farther u, refl, omega arith)
