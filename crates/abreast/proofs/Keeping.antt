-- What a row keeps by what the state stores and by the row it fell from.
use mathlib.Core.Path.{◌≡◌, refl, sym, ap}
use mathlib.Core.Option.{Option, none, some}
use Prim.Native.Nat.{ℕ, suc, ◌+◌, ◌≤◌, ◌<◌}
use native.Mathlib.Decide.{dec_lt}
use native.Mathlib.Omega.{arith}
use lib.Dec.{eqb}
use borrow.Author.Tests.{ne_eqb}
use Rattle.paper.specs.View.{View, Found, stored, gives, default_gives}
use Rattle.paper.proofs.Look.{serves_own, serves_on, serves_look}
use Rattle.abreast.specs.Keeps.{Keeps}

module _ (v : View) where
  -- What the row holds that a state falls from: its default's, or what row 512 has.
  pub record Falls (i s c t h : ℕ) : Type 0 where
    pub root : v.default s ≡ none → (t ≡ 65535) × (h ≡ 0)
    pub default : (d : ℕ) → v.default s ≡ some d → Keeps v i d c t h

  -- A number that is kept is small.
  pub keeps_small : (i s c t h : ℕ) → i ≤ 512 → Keeps v i s c t h → h < 2000
  keeps_small i s c t h few K = go (dec_lt c v.classes)
    where
      go : Dec (c < v.classes) → h < 2000
      go (yes l) = let S = K.known l in omega (arith, S.far, S.near)
      go (no l) = omega (arith, K.beyond (omega arith))

  -- What is kept stays right with more places passed.
  pub keeps_later : (i s c t h : ℕ) → Keeps v i s c t h → Keeps v (i + 1) s c t h
  keeps_later i s c t h K =
      record {
        known = λ l. let S = K.known l in record { server = S.server; hops = S.hops; near = omega (arith, S.near); far = S.far; serves = S.serves };
        beyond = λ l. omega (arith, K.beyond l);
      }

  -- A state that stores the class.
  pub keeps_own : (i s c t h : ℕ) → c < v.classes → stored v s c ≡ some t → h ≡ 1024 → Keeps v (i + 1) s c t h
  keeps_own i s c t h l e q =
      record {
        known = λ _. record { server = s; hops = 0; near = omega arith; far = omega (arith, q); serves = serves_own v c s t e };
        beyond = λ u. absurd (omega arith);
      }

  module _ {i s c t h : ℕ} (F : Falls i s c t h) where
    -- The number that a row falls from is small.
    pub falls_small : i ≤ 512 → h < 2000
    falls_small few = go (v.default s) refl
      where
        go : (o : Option ℕ) → v.default s ≡ o → h < 2000
        go none e = omega (arith, (F.root e).1)
        go (some d) e = keeps_small i d c t h few (F.default d e)

    -- A state that does not store the class keeps what it fell from, one hop further.
    pub keeps_on : stored v s c ≡ none → (v.default s ≡ none → ¬ (c < v.classes)) → Keeps v (i + 1) s c t (h + 1)
    keeps_on e roots = go (v.default s) refl
      where
        go : (o : Option ℕ) → v.default s ≡ o → Keeps v (i + 1) s c t (h + 1)
        go none q = record { known = λ l. absurd (roots q l); beyond = λ l. omega (arith, (F.root q).1) }
        go (some d) q =
            let K = F.default d q in
            record {
              known = λ l.
                  let S = K.known l in
                  record {
                    server = S.server;
                    hops = suc S.hops;
                    near = omega (arith, S.near);
                    far = omega (arith, S.far);
                    serves = serves_on v c s d S.server S.hops t e q S.serves;
                  };
              beyond = λ l. omega (arith, K.beyond l);
            }

    -- So the default's chain gives a next state just where it is the one that the row fell from.
    pub falls-gives : i ≤ v.states → c < v.classes → (x : ℕ) → x < 65535 → default_gives v (v.default s) c x ≡ eqb t x
    falls-gives within l x small = go (v.default s) refl
      where
        go : (o : Option ℕ) → v.default s ≡ o → default_gives v o c x ≡ eqb t x
        go none e = sym (ne_eqb t x (λ q. absurd (omega (arith, (F.root e).0))))
        go (some d) e =
            let S = (F.default d e).known l in
            ap (λ (f : Option Found). gives f x) (serves_look v c v.states d S.server S.hops t S.serves (omega (arith, S.near)))
