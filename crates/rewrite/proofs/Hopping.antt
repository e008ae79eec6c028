-- One class in a sweep over an order in which each state comes after its default: after how many hops the chain of each state gives it.
use mathlib.Core.Path.{◌≡◌, sym, ap, ◌∙◌}
use mathlib.Core.Bool.{Bool, cond}
use mathlib.Core.Option.{some}
use mathlib.Core.List.{List}
use Prim.Native.Nat.{ℕ, suc, ◌+◌, ◌≤◌, ◌<◌}
use native.Mathlib.Numerals.{add-one}
use native.Mathlib.Decide.{ℕ_discrete}
use native.Mathlib.Omega.{arith}
use lib.Dec.{eqb}
use lib.ListN.{length, get_or, set}
use lib.Seq.{get_or-set_same, get_or-set_other}
use borrow.Author.Tests.{eq-eqb, ne_eqb}
use Rattle.paper.specs.View.{View}
use Rattle.paper.specs.Image.{default_from_of}
use Rattle.paper.specs.Sentences.{Serves}
use Rattle.paper.proofs.Look.{hops_of, serves_own, serves_on, serves_look}
use Rattle.chains.specs.Orders.{ParentFirst}
use Rattle.chains.specs.Sweeps.{Falls}
use Rattle.chains.proofs.Defaults.{from_none, from_some}
use Rattle.chains.proofs.Done.{Done, done_more, done_default, done_all}
use Rattle.rewrite.specs.Staying.{hop_at_of, RootsStore, OthersStore, Hopped}

module _ (stay own hop : List ℕ) (s : ℕ) where
  -- A root takes no hop.
  pub hop_root : get_or stay s 0 ≡ 65535 → 0 ≡ hop_at_of stay own hop s
  hop_root q = sym (ap (λ (x : Bool). cond x 0 (cond (eqb (get_or own s 0) 65535) (get_or hop (get_or stay s 0) 0 + 1) 0)) (eq-eqb (get_or stay s 0) 65535 q))

  module _ (q : ¬ (get_or stay s 0 ≡ 65535)) where
    other : hop_at_of stay own hop s ≡ cond (eqb (get_or own s 0) 65535) (get_or hop (get_or stay s 0) 0 + 1) 0
    other = ap (λ (x : Bool). cond x 0 (cond (eqb (get_or own s 0) 65535) (get_or hop (get_or stay s 0) 0 + 1) 0)) (ne_eqb (get_or stay s 0) 65535 q)

    -- Nor does a state that stores the class.
    pub hop_own : ¬ (get_or own s 0 ≡ 65535) → 0 ≡ hop_at_of stay own hop s
    hop_own o = sym (other ∙ ap (λ (x : Bool). cond x (get_or hop (get_or stay s 0) 0 + 1) 0) (ne_eqb (get_or own s 0) 65535 o))

    -- Any other takes one more than its default.
    pub hop_on : get_or own s 0 ≡ 65535 → get_or hop (get_or stay s 0) 0 + 1 ≡ hop_at_of stay own hop s
    hop_on o = sym (other ∙ ap (λ (x : Bool). cond x (get_or hop (get_or stay s 0) 0 + 1) 0) (eq-eqb (get_or own s 0) 65535 o))

-- In every such view the chain of a state gives the class in so many hops and fewer than i.
pub record Within (n : ℕ) (stay own : List ℕ) (i s h : ℕ) : Type 0 where
  pub near : h < i
  pub serves : (v : View) (c : ℕ) → Falls v n stay → RootsStore v c n stay → OthersStore v c n stay own → (server : ℕ) × (target : ℕ) × Serves v s c server h target

module _ {n : ℕ} {stay own : List ℕ} where
  -- Where the hops of the default are known, those of a state are.
  within_here : (i s : ℕ) (hop : List ℕ) (h : ℕ) → s < n → ((d : ℕ) → default_from_of (get_or stay s 0) ≡ some d → Within n stay own i d (get_or hop d 0)) → h ≡ hop_at_of stay own hop s
      → Within n stay own (i + 1) s h
  within_here i s hop h hs next e = go (ℕ_discrete (get_or stay s 0) 65535) (ℕ_discrete (get_or own s 0) 65535)
    where
      go : Dec (get_or stay s 0 ≡ 65535) → Dec (get_or own s 0 ≡ 65535) → Within n stay own (i + 1) s h
      go (yes q) o =
          let z : h ≡ 0 = e ∙ sym (hop_root stay own hop s q) in
          rw z (record { near = omega arith; serves = λ v c F R O. let (t, w) = R s hs q in (s, t, serves_own v c s t w) })
      go (no q) (no o) =
          let z : h ≡ 0 = e ∙ sym (hop_own stay own hop s q o) in
          rw z (record { near = omega arith; serves = λ v c F R O. (s, get_or own s 0, serves_own v c s (get_or own s 0) (O s hs q ∙ from_some (get_or own s 0) o)) })
      go (no q) (yes o) =
          let d = get_or stay s 0 in
          let D = next d (from_some d q) in
          let z : h ≡ suc (get_or hop d 0) = e ∙ sym (hop_on stay own hop s q o) ∙ add-one (get_or hop d 0) in
          rw z
          (record {
            near = omega (arith, D.near);
            serves = λ v c F R O.
                let (server, target, W) = D.serves v c F R O in
                (server, target, serves_on v c s d server (get_or hop d 0) target (O s hs q ∙ from_none (get_or own s 0) o) (F.falls s hs ∙ from_some d q) W);
          })

  -- What is so in fewer hops is so in fewer than more.
  within_later : (i s h : ℕ) → Within n stay own i s h → Within n stay own (i + 1) s h
  within_later i s h D = record { near = omega (arith, D.near); serves = D.serves }

  module _ {order : List ℕ} (O : ParentFirst n stay order) (hop : List ℕ) (i s : ℕ) (hi : i < n) (w : s ≡ get_or order i 0) (hs : s < n)
      (D : Done (Within n stay own i) order (λ q. get_or hop q 0) i) where
    -- The hops of the default of the state at the next place are set down.
    default_within : (d : ℕ) → default_from_of (get_or stay s 0) ≡ some d → Within n stay own i d (get_or hop d 0)
    default_within d e = done_default (Within n stay own i) order n stay (λ q. get_or hop q 0) i s d O hi w e D

    -- The default, where there is one, is a state, and one more hop fits.
    pub hop_fits : n ≤ 512 → ¬ (get_or stay s 0 ≡ 65535) → (get_or stay s 0 < 512) × (get_or hop (get_or stay s 0) 0 < 512)
    hop_fits few e =
        let falls = from_some (get_or stay s 0) e in
        let (j, hj, q) = O.after i (get_or stay s 0) hi (ap (λ (q : ℕ). default_from_of (get_or stay q 0)) (sym w) ∙ falls) in
        (omega (arith, O.below j (omega arith)), omega (arith, (default_within (get_or stay s 0) falls).near))

    -- Those of the state at the next place are.
    pub hop_more : (h : ℕ) → s < length hop → h ≡ hop_at_of stay own hop s → Done (Within n stay own (i + 1)) order (λ q. get_or (set hop s h) q 0) (i + 1)
    hop_more h l e =
        done_more (Within n stay own (i + 1)) order (λ q. get_or hop q 0) (λ q. get_or (set hop s h) q 0) i s w
        (rw (get_or-set_same hop s h 0 l) (within_here i s hop h hs default_within e))
        (λ q u. get_or-set_other hop s q h 0 u)
        (λ j lj. within_later i (get_or order j 0) (get_or hop (get_or order j 0) 0) (D j lj))

  -- At the end all are.
  pub hop_all : (order hop : List ℕ) → ParentFirst n stay order → length hop ≡ 512 → Done (Within n stay own n) order (λ q. get_or hop q 0) n → Hopped n stay own hop
  hop_all order hop O l D =
      record {
        long = l;
        hops = λ v c F R W s h.
            let E = done_all (Within n stay own n) order n stay (λ q. get_or hop q 0) O D s h in
            let (server, target, S) = E.serves v c F R W in
            ap hops_of (serves_look v c v.states s server (get_or hop s 0) target S (omega (arith, E.near, F.counted)));
      }
