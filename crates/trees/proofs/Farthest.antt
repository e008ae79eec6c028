-- d(x), the longest distance from x in its tree, and how a join renews it for every state of both trees.
use mathlib.Core.Path.{◌≡◌, sym}
use mathlib.Core.Logic.{inl, inr}
use Prim.Native.Nat.{ℕ, ◌+◌, ◌≤◌, ◌<◌, max}
use native.Mathlib.Omega.{arith}
use Rattle.paper.specs.Forest.{Trees, joined, d}
use Rattle.paper.proofs.Join.{Mates}
use Rattle.paper.proofs.Bridge.{Bridge, turned, bridged_mates, bridged_mates_other, joined_bridge}
use Rattle.trees.proofs.InTree.{largest_in_upper, largest_in_least, largest_in_attained, largest_in_same}

module _ (n : ℕ) (F : Trees) (x : ℕ) where
  -- No state of the tree is farther from x.
  pub d_upper : (y : ℕ) → y < n → Mates F x y → F.distance x y ≤ d n F x
  unfolding d
  d_upper y l h = largest_in_upper F x (F.distance x) n y l h

  -- It is not above what no distance from x is above.
  pub d_least : (m : ℕ) → ((y : ℕ) → y < n → Mates F x y → F.distance x y ≤ m) → d n F x ≤ m
  unfolding d
  d_least m h = largest_in_least F x (F.distance x) n m h

  -- Some state of the tree is so far from x.
  pub d_attained : x < n → (y : ℕ) × (y < n) × (Mates F x y) × (F.distance x y ≡ d n F x)
  unfolding d
  d_attained l = largest_in_attained F x (F.distance x) n l

module _ (n : ℕ) (F G : Trees) (a b : ℕ) (B : Bridge F G a b) where
  -- From a state of a's tree the farthest is the old one, or the one farthest from b over the pair.
  pub bridged_d : b < n → (x : ℕ) → Mates F a x → d n G x ≡ max (d n F x) (F.distance x a + 1 + d n F b)
  bridged_d l x h =
      let (z, zb, m, e) = d_attained n F b l in
      let most : d n G x ≤ max (d n F x) (F.distance x a + 1 + d n F b) =
      d_least n G x _ (λ y yb k. elim (bridged_mates B x y h k) [
        | inl s ↦ omega (arith, B.same x y s, d_upper n F x y yb s)
        | inr s ↦ omega (arith, B.over x y h s, d_upper n F b y yb s)
      ]) in
      let own : d n F x ≤ d n G x = d_least n F x _ (λ y yb k. omega (arith, B.same x y k, d_upper n G x y yb (B.keep x y k))) in
      omega (arith, most, own, B.over x z h m, d_upper n G x z zb (B.meet x z h m), e)

  -- For a state of neither tree nothing changes.
  pub bridged_d_other : (x : ℕ) → ¬ Mates F a x → ¬ Mates F b x → d n G x ≡ d n F x
  unfolding d
  bridged_d_other x na nb =
      sym (largest_in_same n F G x x (F.distance x) (G.distance x)
      (λ y l h. (B.keep x y h, sym (B.same x y h))) (λ y l h. bridged_mates_other B x y na nb h))

module _ (n : ℕ) (F : Trees) (u v : ℕ) (apart : ¬ Mates F u v) where
  -- After joining u's and v's trees, d of every state of u's tree.
  pub joined-d_first : v < n → (x : ℕ) → Mates F u x → d n (joined F u v) x ≡ max (d n F x) (F.distance x u + 1 + d n F v)
  joined-d_first l x h = bridged_d n F (joined F u v) u v (joined_bridge F u v apart) l x h

  -- And of every state of v's tree.
  pub joined-d_second : u < n → (x : ℕ) → Mates F v x → d n (joined F u v) x ≡ max (d n F x) (F.distance x v + 1 + d n F u)
  joined-d_second l x h = bridged_d n F (joined F u v) v u (turned (joined_bridge F u v apart)) l x h

  -- It stays for all others.
  pub joined-d_other : (x : ℕ) → ¬ Mates F u x → ¬ Mates F v x → d n (joined F u v) x ≡ d n F x
  joined-d_other x nu nv = bridged_d_other n F (joined F u v) u v (joined_bridge F u v apart) x nu nv
