-- The lengths of the chains in a sweep over an order in which each state comes after its default.
use mathlib.Core.Path.{◌≡◌, refl, sym, ap}
use mathlib.Core.Option.{Option, none, some}
use mathlib.Core.List.{List}
use Prim.Native.Nat.{ℕ, suc, ◌+◌, ◌<◌, max}
use native.Mathlib.Numerals.{add-one}
use native.Mathlib.Omega.{arith}
use lib.ListN.{length, get_or, set}
use lib.Seq.{get_or-set_same, get_or-set_other}
use Rattle.paper.specs.Below.{or, largest}
use Rattle.paper.specs.View.{View, chain, longer, depth_of}
use Rattle.paper.specs.Image.{default_from_of}
use Rattle.paper.proofs.Below.{largest_same}
use Rattle.paper.proofs.Chain.{Inside, ends-chain, chain_short}
use Rattle.chains.specs.Orders.{defaults_view, InRange, ChainLength}
use Rattle.chains.proofs.Defaults.{from_none, range_inside}
use Rattle.chains.proofs.Ends.{chain_enough}
use Rattle.chains.proofs.Done.{Done, done_more}

-- The chain of a state without a default has no steps.
chain_here : (v : View) (s : ℕ) → s < v.states → v.default s ≡ none → chain v v.states s ≡ some 0
chain_here v s h e = ends-chain v v.states s 0 (record { last = s; reached = refl; root = e }) (omega arith)

-- The chain of a state is one step longer than its default's.
chain_next : (v : View) → Inside v → (s d l : ℕ) → s < v.states → v.default s ≡ some d → chain v v.states d ≡ some l → chain v v.states s ≡ some (suc l)
chain_next v inside s d l h e q = chain_enough v inside (suc v.states) s (suc l) h (rw e (ap longer q))

module _ (n : ℕ) (def : List ℕ) where
  -- So with defaults in a list, for a state without one.
  pub length_here : (s : ℕ) → s < n → get_or def s 0 ≡ 65535 → ChainLength n def s 0
  length_here s h e = chain_here (defaults_view n def) s h (from_none (get_or def s 0) e)

  -- And for a state with one.
  pub length-next : InRange n def → (s d l : ℕ) → s < n → default_from_of (get_or def s 0) ≡ some d → ChainLength n def d l → ChainLength n def s (l + 1)
  length-next range s d l h e q = rw (add-one l) (chain_next (defaults_view n def) (range_inside n def range) s d l h e q)

  -- No chain has as many steps as there are states.
  pub length_below : (s l : ℕ) → ChainLength n def s l → l < n
  length_below s l e = chain_short (defaults_view n def) n s l e

-- One more length is set down.
pub length_more : (n : ℕ) (def order len : List ℕ) (i s l : ℕ) → s ≡ get_or order i 0 → s < length len → ChainLength n def s l → Done (ChainLength n def) order (λ q. get_or len q 0) i
    → Done (ChainLength n def) order (λ q. get_or (set len s l) q 0) (i + 1)
length_more n def order len i s l e h q =
    done_more (ChainLength n def) order (λ q. get_or len q 0) (λ q. get_or (set len s l) q 0) i s e (rw (get_or-set_same len s l 0 h) q) (λ q w. get_or-set_other len s q l 0 w)

-- The largest length is the depth.
pub lengths_depth : (n : ℕ) (def len : List ℕ) (m : ℕ) → ((s : ℕ) → s < n → ChainLength n def s (get_or len s 0)) → m ≡ max 0 (largest n (λ s. get_or len s 0)) → m ≡ depth_of (defaults_view n def)
unfolding depth_of
lengths_depth n def len m all e =
    let w = largest_same n (λ s. get_or len s 0) (λ s. or (chain (defaults_view n def) n s) 0) (λ s h. sym (ap (λ (o : Option ℕ). or o 0) (all s h))) in
    omega arith
