-- One class in a sweep over an order in which each state comes after its default: what the chain of each state gives, and after how many hops.
use mathlib.Core.Path.{◌≡◌, refl, sym, ap, ◌∙◌}
use mathlib.Core.Option.{Option, none, some}
use mathlib.Core.List.{List}
use Prim.Native.Nat.{ℕ, suc, ◌+◌, ◌≤◌, ◌<◌}
use native.Mathlib.Numerals.{add-one}
use native.Mathlib.Omega.{arith}
use lib.ListN.{length, get_or, set}
use lib.Seq.{get_or-set_same, get_or-set_other}
use Rattle.paper.specs.Image.{default_from_of}
use Rattle.paper.specs.Sentences.{Serves}
use Rattle.paper.specs.Below.{or}
use Rattle.paper.specs.View.{View}
use Rattle.paper.proofs.Tests.{none≢some}
use Rattle.paper.proofs.Look.{serves_own, serves_on, serves_look}
use Rattle.chains.specs.Orders.{ParentFirst}
use Rattle.chains.specs.Sweeps.{Falls, Stores, RootsStore, kept_at, reckoned, Resolves}
use Rattle.chains.proofs.Defaults.{from_none, from_some, from_named}
use Rattle.chains.proofs.Done.{Done, done_more, done_default, done_all}

-- A state that stores the class.
pub reckoned_own : (x : ℕ) (o : Option ℕ) (f : ℕ → ℕ × ℕ) → ¬ (x ≡ 65535) → reckoned (default_from_of x) o f ≡ some (x, 0)
reckoned_own x o f e = rw (from_some x e)

-- A state that does not, where what its default finds is kept.
pub reckoned_on : (x y d : ℕ) (to hop : List ℕ) → x ≡ 65535 → y < 512 → d ≡ y → reckoned (default_from_of x) (default_from_of y) (kept_at to hop) ≡ some (get_or to d 0, get_or hop d 0 + 1)
reckoned_on x y d to hop e h q = rw (from_none x e, from_named y d (λ w. omega arith) q, add-one (get_or hop d 0))

-- A pair that is there is one.
pair_same : (a b : ℕ × ℕ) → ◌≡◌ {A = Option (ℕ × ℕ)} (some a) (some b) → a ≡ b
pair_same a b e = ap (λ (o : Option (ℕ × ℕ)). or o (0, 0)) e

-- In every view with these defaults, for every class of which its states store these targets, the chain of a state gives this target, in so many hops and fewer than i.
pub record ServedWithin (n : ℕ) (def own : List ℕ) (i s : ℕ) (r : ℕ × ℕ) : Type 0 where
  pub near : r.1 < i
  pub serves : (v : View) (c : ℕ) → Falls v n def → Stores v c n own → (server : ℕ) × Serves v s c server r.1 r.0

module _ {n : ℕ} {def own : List ℕ} where
  -- Where what the default's chain gives is known, the look-up at a state gives what its chain gives.
  served_here : (i s : ℕ) (f : ℕ → ℕ × ℕ) (r : ℕ × ℕ) → s < n → ((d : ℕ) → default_from_of (get_or def s 0) ≡ some d → ServedWithin n def own i d (f d))
      → reckoned (default_from_of (get_or own s 0)) (default_from_of (get_or def s 0)) f ≡ some r → ServedWithin n def own (i + 1) s r
  served_here i s f r h next e = go (default_from_of (get_or own s 0)) refl (default_from_of (get_or def s 0)) refl e
    where
      go : (o : Option ℕ) → default_from_of (get_or own s 0) ≡ o → (p : Option ℕ) → default_from_of (get_or def s 0) ≡ p → reckoned o p f ≡ some r
          → ServedWithin n def own (i + 1) s r
      go (some t) qo p qp e =
          rw (← pair_same (t, 0) r e) (record { near = omega arith; serves = λ v c F S. (s, serves_own v c s t (S s h ∙ qo)) })
      go none qo none qp e = absurd (none≢some none r refl e)
      go none qo (some d) qp e =
          let D = next d qp in
          rw (← pair_same ((f d).0, suc (f d).1) r e)
          (record {
            near = omega (arith, D.near);
            serves = λ v c F S.
                let (server, W) = D.serves v c F S in
                (server, serves_on v c s d server (f d).1 (f d).0 (S s h ∙ qo) (F.falls s h ∙ qp) W);
          })

  -- What is served in fewer hops is served in fewer than more.
  served_later : (i s : ℕ) (r : ℕ × ℕ) → ServedWithin n def own i s r → ServedWithin n def own (i + 1) s r
  served_later i s r D = record { near = omega (arith, D.near); serves = D.serves }

  module _ {order : List ℕ} (O : ParentFirst n def order) (to hop : List ℕ) (i s : ℕ) (hi : i < n) (w : s ≡ get_or order i 0) (hs : s < n)
      (D : Done (ServedWithin n def own i) order (kept_at to hop) i) where
    -- What the default of the state at the next place gives is set down.
    default-served : (d : ℕ) → default_from_of (get_or def s 0) ≡ some d → ServedWithin n def own i d (kept_at to hop d)
    default-served d e = done_default (ServedWithin n def own i) order n def (kept_at to hop) i s d O hi w e D

    -- Where the state stores nothing its default is a state, and one more hop fits.
    pub served_fits : n ≤ 512 → RootsStore n def own → get_or own s 0 ≡ 65535 → (get_or def s 0 < 512) × (get_or hop (get_or def s 0) 0 < 512)
    served_fits few roots e =
        let falls = from_some (get_or def s 0) (λ q. roots s hs q e) in
        let (j, hj, q) = O.after i (get_or def s 0) hi (ap (λ (q : ℕ). default_from_of (get_or def q 0)) (sym w) ∙ falls) in
        (omega (arith, O.below j (omega arith)), omega (arith, (default-served (get_or def s 0) falls).near))

    -- The state at the next place is served.
    pub served_more : (t h : ℕ) → s < length to → s < length hop
        → reckoned (default_from_of (get_or own s 0)) (default_from_of (get_or def s 0)) (kept_at to hop) ≡ some (t, h)
        → Done (ServedWithin n def own (i + 1)) order (kept_at (set to s t) (set hop s h)) (i + 1)
    served_more t h lt lh e =
        done_more (ServedWithin n def own (i + 1)) order (kept_at to hop) (kept_at (set to s t) (set hop s h)) i s w
        (rw (get_or-set_same to s t 0 lt, get_or-set_same hop s h 0 lh) (served_here i s (kept_at to hop) (t, h) hs default-served e))
        (λ q u. rw (get_or-set_other to s q t 0 u, get_or-set_other hop s q h 0 u))
        (λ j l. served_later i (get_or order j 0) (kept_at to hop (get_or order j 0)) (D j l))

  -- At the end all are.
  pub served_all : (order to hop : List ℕ) → ParentFirst n def order → length to ≡ 512 → length hop ≡ 512 → Done (ServedWithin n def own n) order (kept_at to hop) n
      → Resolves n def own to hop
  served_all order to hop O lt lh D =
      record {
        to_long = lt;
        hop_long = lh;
        finds = λ v c F S s l.
            let E = done_all (ServedWithin n def own n) order n def (kept_at to hop) O D s l in
            let (server, W) = E.serves v c F S in
            (server, serves_look v c v.states s server (get_or hop s 0) (get_or to s 0) W (omega (arith, E.near, F.counted)));
      }
