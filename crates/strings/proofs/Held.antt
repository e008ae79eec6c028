-- The names that arrays hold, with the place in the list where the bytes of each stand, and one byte more of a string.
use mathlib.Core.Path.{◌≡◌, refl, sym, ap, ◌∙◌}
use mathlib.Core.Bool.{Bool, true, false, cond}
use mathlib.Core.List.{List, [], ◌∷◌, ◌++◌}
use Prim.Native.Nat.{ℕ, suc, ◌+◌, ◌≤◌, ◌<◌}
use native.Mathlib.Decide.{ℕ_discrete}
use native.Mathlib.Omega.{arith}
use lib.ListN.{length, get_or, set, drop, length-append, get_or-append}
use lib.Seq.{get_or-set_same, get_or-set_other, get_or_at, get_or-take, get_or-drop}
use Rattle.paper.specs.Words.{byte_at, Bytes}
use Rattle.paper.specs.Strings.{among, number_of}
use Rattle.strings.proofs.Among.{number_of_below, get_or-number_of, number_of_absent}
use Rattle.strings.proofs.Needed.{added}
use Rattle.strings.proofs.Growing.{added_there, added_number}
use Rattle.strings.proofs.Parts.{part, part_length}
use Rattle.strings.proofs.Grow.{Grown, Stepped}
use Rattle.strings.proofs.Trie.{trie_one}
use Rattle.strings.proofs.Children.{children_one}

-- The arrays hold n names, and of each the place of its bytes.
pub record Held (b : List ℕ) (ws : List (List ℕ)) (rows parent last long from : List ℕ) (n : ℕ) : Type 0 where
  pub grown : Grown ws rows parent last long
  pub counted : length ws ≡ n
  pub few : n ≤ 512
  pub inside : (s : ℕ) → s < n → get_or from s 0 + get_or long s 0 ≤ length b
  pub named : (s : ℕ) → s < n → get_or ws s [] ≡ part b (get_or from s 0) (get_or long s 0)

-- Empty arrays hold the empty string.
pub held_one : (b rows parent last long from : List ℕ) → ((i : ℕ) → get_or rows i 0 ≡ 0) → get_or long 0 0 ≡ 0 → get_or from 0 0 ≡ 0 → Held b ([] ∷ []) rows parent last long from 1
held_one b rows parent last long from z l f = record {
  grown = record {
    trie = trie_one (λ s. get_or parent s 0) (λ s. get_or last s 0);
    kids = children_one rows z;
    longs = λ s h. let e : s ≡ 0 = omega arith in rw e l;
  };
  counted = refl;
  few = omega arith;
  inside = λ s h. let e : s ≡ 0 = omega arith in rw (e, l, f) (omega arith);
  named = λ s h. let e : s ≡ 0 = omega arith in rw (e, l) refl;
}

module _ (b : List ℕ) (ws : List (List ℕ)) (rows parent last long from : List ℕ) (n : ℕ) (H : Held b ws rows parent last long from n) where
  -- There is a state, and state 0 stands for the empty string.
  pub held_some : (1 ≤ n) × (get_or ws 0 [] ≡ [])
  held_some = (omega (arith, H.grown.trie.some, H.counted), H.grown.trie.root)

  -- The last byte of a name is a byte of the list.
  pub held_small : Bytes b → (s : ℕ) → 0 < s → s < n → get_or last s 0 < 256
  held_small B s far h =
      let l : s < length ws = omega (arith, H.counted) in
      let p : List ℕ = get_or ws (get_or parent s 0) [] in
      let e : get_or ws s [] ≡ p ++ (get_or last s 0 ∷ []) = H.grown.trie.named s far l in
      let k : length p < get_or long s 0 = omega (arith, ap length e, length-append p (get_or last s 0 ∷ []), H.grown.longs s l) in
      let q : get_or last s 0 ≡ byte_at b (get_or from s 0 + length p) =
      sym (get_or_at p (get_or last s 0) [] 0 (length p) refl)
      ∙ ap (λ (w : List ℕ). get_or w (length p) 0) (sym e ∙ H.named s h)
      ∙ get_or-take (get_or long s 0) (drop (get_or from s 0) b) (length p) 0 k
      ∙ get_or-drop (get_or from s 0) b (length p) 0 in
      omega (arith, B (get_or from s 0 + length p))

  module _ (p a r m at j : ℕ) (rows' parent' last' long' : List ℕ) (S : Stepped ws p a r m rows' parent' last' long')
      (ev : get_or ws p [] ++ (a ∷ []) ≡ part b at (suc j)) (fits : at + suc j ≤ length b) where
    -- The longer name.
    abbrev v : List ℕ
    v = part b at (suc j)

    -- The names with it.
    abbrev us : List (List ℕ)
    us = added ws v

    -- They are so many.
    count_is : length us ≡ m
    count_is = ap (λ (w : List ℕ). length (added ws w)) (sym ev) ∙ S.counted

    -- The step answers its number,
    number_is : r ≡ number_of v us
    number_is = S.state_is ∙ ap (λ (w : List ℕ). number_of w (added ws w)) ev

    -- which is below their count,
    number_below : r < length us
    number_below = omega (arith, number_is, number_of_below v us (added_there ws v))

    -- and stands for it.
    pub step_name : get_or us r [] ≡ v
    step_name = ap (λ (x : ℕ). get_or us x []) number_is ∙ get_or-number_of v us (added_there ws v)

    -- The names before are as they were,
    before : (s : ℕ) → s < n → get_or us s [] ≡ get_or ws s []
    before s h = go (among v ws)
      where
        go : (t : Bool) → get_or (cond t ws (ws ++ (v ∷ []))) s [] ≡ get_or ws s []
        go true = refl
        go false = get_or-append ws (v ∷ []) [] s (omega (arith, H.counted))

    -- and there is no other.
    earlier : (s : ℕ) → s < m → ¬ (s ≡ r) → s < n
    earlier s h e = go (among v ws) refl count_is
      where
        go : (t : Bool) → among v ws ≡ t → length (cond t ws (ws ++ (v ∷ []))) ≡ m → s < n
        go true q l = omega (arith, H.counted)
        go false q l = omega (arith, e, number_is ∙ added_number ws v ∙ number_of_absent v ws q, length-append ws (v ∷ []), H.counted)

    -- The arrays hold the names with it.
    pub step_held : length from ≡ 512 → m ≤ 512 → Held b (added ws (part b at (suc j))) rows' parent' last' long' (set from r at) m × (r < m)
    step_held big few = (
      record {
        grown = G;
        counted = count_is;
        few = few;
        inside = λ s h. (all s h (ℕ_discrete s r)).0;
        named = λ s h. (all s h (ℕ_discrete s r)).1;
      },
      omega (arith, number_below, count_is),
    )
      where
        G : Grown us rows' parent' last' long'
        G = rw ev at S.grown

        own : get_or long' r 0 ≡ suc j
        own = G.longs r number_below ∙ ap length step_name ∙ part_length b at (suc j) fits

        all : (s : ℕ) → s < m → Dec (s ≡ r)
            → (get_or (set from r at) s 0 + get_or long' s 0 ≤ length b) × (get_or us s [] ≡ part b (get_or (set from r at) s 0) (get_or long' s 0))
        all s h (yes e) = rw (e, get_or-set_same from r at 0 (omega (arith, number_below, count_is)), own) (fits, step_name)
        all s h (no e) =
            let k : s < n = earlier s h e in
            let same : get_or long' s 0 ≡ get_or long s 0 = G.longs s (omega (arith, count_is)) ∙ ap length (before s k) ∙ sym (H.grown.longs s (omega (arith, H.counted))) in
            rw (get_or-set_other from r s at 0 e, same) (H.inside s k, before s k ∙ H.named s k)
