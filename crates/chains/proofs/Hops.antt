-- The hops of a state for a class, by what it stores and the hops of its default.
use mathlib.Core.Path.{◌≡◌, ap}
use mathlib.Core.Option.{none, some}
use Prim.Native.Nat.{ℕ, ◌+◌, ◌≤◌, ◌<◌}
use native.Mathlib.Numerals.{add-one}
use native.Mathlib.Omega.{arith}
use Rattle.paper.specs.View.{View, stored, look}
use Rattle.paper.specs.Sentences.{Serves}
use Rattle.paper.proofs.Look.{hops_of, serves_own, serves_on, serves_look}

-- The chain of a state gives the class in so many hops and fewer than i.
pub record Within (v : View) (i s c h : ℕ) : Type 0 where
  pub near : h < i
  pub server : ℕ
  pub target : ℕ
  pub serves : Serves v s c server h target

module _ {v : View} where
  -- A state that stores the class takes none.
  pub within_own : (i s c t : ℕ) → stored v s c ≡ some t → Within v (i + 1) s c 0
  within_own i s c t e = record { near = omega arith; server = s; target = t; serves = serves_own v c s t e }

  -- Any other takes one more than its default.
  pub within_on : {i d c h : ℕ} (s : ℕ) → stored v s c ≡ none → v.default s ≡ some d → Within v i d c h → Within v (i + 1) s c (h + 1)
  within_on {d} {c} {h} s e q W =
      record {
        near = omega (arith, W.near);
        server = W.server;
        target = W.target;
        serves = rw (add-one h) (serves_on v c s d W.server h W.target e q W.serves);
      }

  -- What is so in fewer hops is so in fewer than more.
  pub within_later : {i s c h : ℕ} → Within v i s c h → Within v (i + 1) s c h
  within_later W = record { near = omega (arith, W.near); server = W.server; target = W.target; serves = W.serves }

  -- They are those of the look-up.
  pub within_look : {i s c h : ℕ} → i ≤ v.states → Within v i s c h → (look v s c).hops ≡ h
  within_look {s} {c} {h} l W = ap hops_of (serves_look v c v.states s W.server h W.target W.serves (omega (arith, W.near)))
