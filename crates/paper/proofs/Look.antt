-- Look-ups along chains: what they find is what the first state on the chain that stores the class has, so many steps on.
use mathlib.Core.Path.{◌≡◌, refl, sym, ap, ◌∙◌, subst}
use mathlib.Core.Option.{Option, none, some}
use Prim.Native.Nat.{ℕ, zero, suc, ◌≤◌, ◌<◌, zero-le}
use native.Mathlib.Nat.{not-suc-le-zero}
use native.Mathlib.Omega.{arith}
use Rattle.paper.specs.Below.{or, largest}
use Rattle.paper.specs.View.{View, Found, here, further, served, stored, steps, and_then, chain, look_up_of, find, look, depth_of, worst_hops}
use Rattle.paper.specs.Sentences.{Serves}
use Rattle.paper.proofs.Below.{largest_upper, largest_least, largest_attained}
use Rattle.paper.proofs.Tests.{none≢some}
use Rattle.paper.proofs.Chain.{Inside, some_same, longer_some, steps_next, chain_on, depth-longest}

-- The hops of what was found, 0 where nothing was.
abbrev pub hops_of : Option Found → ℕ
hops_of o = (or o (here 0 0)).hops

-- What was found is one.
pub found_same : (a b : Found) → ◌≡◌ {A = Option Found} (some a) (some b) → a ≡ b
found_same a b e = ap (λ (o : Option Found). or o (here 0 0)) e

-- One hop further.
abbrev pub farther : Found → Found
farther r = record { target = r.target; hops = suc r.hops; server = r.server }

-- What the default finds is one hop further.
further_some : (o : Option Found) (r : Found) → further o ≡ some r → (q : Found) × (o ≡ some q) × (farther q ≡ r)
further_some none r e = absurd (none≢some none r refl e)
further_some (some q) r e = (q, refl, found_same (farther q) r e)

module _ (v : View) (c : ℕ) where
  -- A state that stores the class serves it itself, in no hops.
  pub serves_own : (s t : ℕ) → stored v s c ≡ some t → Serves v s c s 0 t
  serves_own s t e = record { reached = refl; stores = e; passed = λ i x h q. absurd (not-suc-le-zero h) }

  -- A state that does not is served by its default's chain, one hop further.
  pub serves_on : (s d r h t : ℕ) → stored v s c ≡ none → v.default s ≡ some d → Serves v d c r h t → Serves v s c r (suc h) t
  serves_on s d r h t e q S =
      record { reached = steps_next v h s d q ∙ S.reached; stores = S.stores; passed = before }
    where
      before : (i x : ℕ) → i < suc h → steps v i s ≡ some x → stored v x c ≡ none
      before zero x l w = rw (← some_same w) e
      before (suc i) x l w = S.passed i x (omega arith) (sym (steps_next v i s d q) ∙ w)

  -- What a look-up finds is what the chain gives.
  pub look_serves : (left s : ℕ) (r : Found) → look_up_of v left s c ≡ some r → Serves v s c r.server r.hops r.target
  look_serves zero s r e = absurd (none≢some none r refl e)
  look_serves (suc left) s r e = go (stored v s c) refl (v.default s) refl e (look_serves left)
    where
      go : (o : Option ℕ) → stored v s c ≡ o → (p : Option ℕ) → v.default s ≡ p → served s o p (λ d. look_up_of v left d c) ≡ some r
          → ((d : ℕ) (q : Found) → look_up_of v left d c ≡ some q → Serves v d c q.server q.hops q.target) → Serves v s c r.server r.hops r.target
      go (some t) qo p qp e ih = rw (← found_same (here s t) r e) (serves_own s t qo)
      go none qo none qp e ih = absurd (none≢some none r refl e)
      go none qo (some d) qp e ih =
          let (q, w, a) = further_some (look_up_of v left d c) r e in
          subst (λ (r : Found). Serves v s c r.server r.hops r.target) a (serves_on s d q.server q.hops q.target qo qp (ih d q w))

  -- What the chain gives in fewer hops than the fuel is found.
  pub serves_look : (left s r h t : ℕ) → Serves v s c r h t → h < left → look_up_of v left s c ≡ some (record { target = t; hops = h; server = r })
  serves_look zero s r h t S l = absurd (not-suc-le-zero l)
  serves_look (suc left) s r zero t S l =
      let own : s ≡ r = some_same S.reached in
      rw (ap (λ (x : ℕ). stored v x c) own ∙ S.stores) (ap (λ (x : ℕ). some (here x t)) own)
  serves_look (suc left) s r (suc h) t S l = rw (S.passed 0 s (omega arith) refl) (go (v.default s) refl S.reached (serves_look left))
    where
      go : (p : Option ℕ) → v.default s ≡ p → and_then p (λ d. steps v h d) ≡ some r
          → ((d r h t : ℕ) → Serves v d c r h t → h < left → look_up_of v left d c ≡ some (record { target = t; hops = h; server = r }))
          → served s none p (λ d. look_up_of v left d c) ≡ some (record { target = t; hops = suc h; server = r })
      go none q e ih = absurd (none≢some none r refl e)
      go (some d) q e ih =
          ap further (ih d r h t
          (record { reached = e; stores = S.stores; passed = λ i x k w. S.passed (suc i) x (omega arith) (steps_next v i s d q ∙ w) })
          (omega arith))

  -- A chain that ends and gives a class gives it at its end at the latest, so in no more hops than it has steps.
  pub serves_within : (left s l r h t : ℕ) → chain v left s ≡ some l → Serves v s c r h t → h ≤ l
  serves_within left s l r h t e S = let (k, _, q) = chain_on v left s h r l e S.reached in omega arith

  -- A look-up finds at most as many hops as the chain has steps.
  pub look_within : (left s l : ℕ) → chain v left s ≡ some l → hops_of (look_up_of v left s c) ≤ l
  look_within left s l e = go (look_up_of v left s c) refl
    where
      go : (o : Option Found) → look_up_of v left s c ≡ o → hops_of o ≤ l
      go none q = zero-le
      go (some r) q = serves_within left s l r.server r.hops r.target e (look_serves left s r q)

  -- Along a chain that ends, the fuel does not matter.
  pub serves_find : (s l r h t : ℕ) → chain v v.states s ≡ some l → l < v.states → Serves v s c r h t → find v s c ≡ some (record { target = t; hops = h; server = r })
  serves_find s l r h t e short S = serves_look v.states s r h t S (omega (arith, serves_within v.states s l r h t e S))

  -- Where every root stores the class, a chain that ends gives it.
  pub look-finds : Inside v → ((s : ℕ) → s < v.states → v.default s ≡ none → (t : ℕ) × (stored v s c ≡ some t))
      → (left s l : ℕ) → s < v.states → chain v left s ≡ some l → (r : Found) × (look_up_of v left s c ≡ some r)
  look-finds inside roots zero s l h e = absurd (none≢some none l refl e)
  look-finds inside roots (suc left) s l h e = go (stored v s c) refl (v.default s) refl (look-finds inside roots left)
    where
      go : (o : Option ℕ) → stored v s c ≡ o → (p : Option ℕ) → v.default s ≡ p
          → ((d l : ℕ) → d < v.states → chain v left d ≡ some l → (r : Found) × (look_up_of v left d c ≡ some r))
          → (r : Found) × (served s o p (λ d. look_up_of v left d c) ≡ some r)
      go (some t) qo p qp ih = (here s t, refl)
      go none qo none qp ih = let (t, w) = roots s h qp in absurd (none≢some (stored v s c) t qo w)
      go none qo (some d) qp ih =
          let (k, w, _) = longer_some (chain v left d) l (rw qp at e) in
          let (r, u) = ih d k (inside s d h qp) w in
          (farther r, ap further u)

-- The largest over two numbers: above all, below every bound, and one of them.
module _ (n m : ℕ) (f : ℕ → ℕ → ℕ) where
  both_upper : (s x : ℕ) → s < n → x < m → f s x ≤ largest n (λ s. largest m (f s))
  both_upper s x hs hx = omega (arith, largest_upper m x (f s) hx, largest_upper n s (λ s. largest m (f s)) hs)

  both_least : (b : ℕ) → ((s x : ℕ) → s < n → x < m → f s x ≤ b) → largest n (λ s. largest m (f s)) ≤ b
  both_least b h = largest_least n b (λ s. largest m (f s)) (λ s hs. largest_least m b (f s) (λ x hx. h s x hs hx))

  both_met : 0 < n → 0 < m → (s : ℕ) × (x : ℕ) × (s < n) × (x < m) × (f s x ≡ largest n (λ s. largest m (f s)))
  both_met hn hm =
      let (s, hs, q) = largest_attained n (λ s. largest m (f s)) hn in
      let (x, hx, r) = largest_attained m (f s) hm in
      (s, x, hs, hx, r ∙ q)

module _ (v : View) (class_of : ℕ → ℕ) where
  -- No state and byte cost more hops than the worst.
  pub worst_upper : (s x : ℕ) → s < v.states → x < 256 → (look v s (class_of x)).hops ≤ worst_hops v class_of
  unfolding worst_hops
  worst_upper = both_upper v.states 256 (λ s x. (look v s (class_of x)).hops)

  -- The worst is not above what no state and byte cost more than.
  pub worst_least : (b : ℕ) → ((s x : ℕ) → s < v.states → x < 256 → (look v s (class_of x)).hops ≤ b) → worst_hops v class_of ≤ b
  unfolding worst_hops
  worst_least = both_least v.states 256 (λ s x. (look v s (class_of x)).hops)

  -- Some state and byte cost just the worst.
  pub worst_met : 0 < v.states → (s : ℕ) × (x : ℕ) × (s < v.states) × (x < 256) × ((look v s (class_of x)).hops ≡ worst_hops v class_of)
  unfolding worst_hops
  worst_met h = both_met v.states 256 (λ s x. (look v s (class_of x)).hops) h (omega arith)

  -- Where all chains end the worst is at most the depth.
  pub worst_le_depth : ((s : ℕ) → s < v.states → (l : ℕ) × (chain v v.states s ≡ some l)) → worst_hops v class_of ≤ depth_of v
  worst_le_depth ends =
      worst_least (depth_of v) (λ s x hs hx. let (l, e) = ends s hs in omega (arith, look_within v (class_of x) v.states s l e, depth-longest v s l hs e))

-- A largest over the bytes is the largest over the classes, where each byte has a class below k and each class below k has a byte.
pub largest-classes : (bytes k : ℕ) (class_of f : ℕ → ℕ) → ((x : ℕ) → x < bytes → class_of x < k)
    → ((c : ℕ) → c < k → (x : ℕ) × (x < bytes) × (class_of x ≡ c)) → largest bytes (λ x. f (class_of x)) ≡ largest k f
largest-classes bytes k class_of f below used =
    let a : largest bytes (λ x. f (class_of x)) ≤ largest k f = largest_least bytes (largest k f) (λ x. f (class_of x)) (λ x hx. largest_upper k (class_of x) f (below x hx)) in
    let b : largest k f ≤ largest bytes (λ x. f (class_of x)) =
    largest_least k (largest bytes (λ x. f (class_of x))) f
    (λ c hc. let (x, hx, e) = used c hc in omega (arith, largest_upper bytes x (λ x. f (class_of x)) hx, ap f e)) in
    omega arith
