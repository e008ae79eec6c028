-- Names by parents, as arrays hold them: each state but 0 has a parent before it and a last byte, and these give its name.
use mathlib.Core.Path.{◌≡◌, refl, sym, ap, ap₂, ◌∙◌}
use mathlib.Core.Bool.{true, false}
use mathlib.Core.List.{List, [], ◌∷◌, ◌++◌}
use Prim.Native.Nat.{ℕ, zero, suc, ◌+◌, ◌<◌}
use native.Mathlib.Decide.{ℕ_discrete}
use native.Mathlib.Omega.{arith}
use lib.ListN.{length, get_or, length-append, get_or-append}
use lib.Seq.{get_or_at}
use Rattle.paper.specs.Strings.{among, number_of}
use Rattle.strings.proofs.Among.{NoRepeats, among-get_or, number_of-get_or, number_of_below, get_or-number_of, no_repeats_snoc}
use Rattle.strings.proofs.Snoc.{snoc_parts, snoc_some, snoc_length}

-- The names of the states, by the parent and the last byte of each but the first, which is the empty string.
pub record Trie (ws : List (List ℕ)) (parent byte : ℕ → ℕ) : Type 0 where
  pub some : 0 < length ws
  pub once : NoRepeats ws
  pub root : get_or ws 0 [] ≡ []
  pub earlier : (s : ℕ) → 0 < s → s < length ws → parent s < s
  pub named : (s : ℕ) → 0 < s → s < length ws → get_or ws s [] ≡ get_or ws (parent s) [] ++ (byte s ∷ [])

-- At first there is the empty string only.
pub trie_one : (parent byte : ℕ → ℕ) → Trie ([] ∷ []) parent byte
trie_one parent byte = record { some = omega arith; once = (refl, tt); root = refl; earlier = λ s p l. absurd (omega arith); named = λ s p l. absurd (omega arith) }

module _ (ws : List (List ℕ)) (parent byte : ℕ → ℕ) (T : Trie ws parent byte) where
  -- The name of a state is one byte longer than that of its parent.
  pub trie_length : (s : ℕ) → 0 < s → s < length ws → length (get_or ws s []) ≡ suc (length (get_or ws (parent s) []))
  trie_length s p l = ap length (T.named s p l) ∙ snoc_length (get_or ws (parent s) []) (byte s)

  -- A state with this parent and this byte is the child.
  pub trie_found : (p a s : ℕ) → 0 < s → s < length ws → parent s ≡ p → byte s ≡ a
      → (among (get_or ws p [] ++ (a ∷ [])) ws ≡ true) × (number_of (get_or ws p [] ++ (a ∷ [])) ws ≡ s)
  trie_found p a s h l e q =
      let n : get_or ws s [] ≡ get_or ws p [] ++ (a ∷ []) = T.named s h l ∙ ap₂ (λ (x y : ℕ). get_or ws x [] ++ (y ∷ [])) e q in
      (ap (λ (w : List ℕ). among w ws) (sym n) ∙ among-get_or ws s l, ap (λ (w : List ℕ). number_of w ws) (sym n) ∙ number_of-get_or ws T.once s l)

  -- The child is such a state.
  pub trie_child : (p a : ℕ) → p < length ws → among (get_or ws p [] ++ (a ∷ [])) ws ≡ true
      → (s : ℕ) × (0 < s) × (s < length ws) × (parent s ≡ p) × (byte s ≡ a) × (number_of (get_or ws p [] ++ (a ∷ [])) ws ≡ s)
  trie_child p a hp e = go (number_of (get_or ws p [] ++ (a ∷ [])) ws) refl
    where
      go : (s : ℕ) → number_of (get_or ws p [] ++ (a ∷ [])) ws ≡ s
          → (s : ℕ) × (0 < s) × (s < length ws) × (parent s ≡ p) × (byte s ≡ a) × (number_of (get_or ws p [] ++ (a ∷ [])) ws ≡ s)
      go zero q = absurd (snoc_some (get_or ws p []) a (sym (get_or-number_of (get_or ws p [] ++ (a ∷ [])) ws e) ∙ ap (λ (x : ℕ). get_or ws x []) q ∙ T.root))
      go (suc s) q =
          let l : suc s < length ws = omega (arith, number_of_below (get_or ws p [] ++ (a ∷ [])) ws e) in
          let n : get_or ws (suc s) [] ≡ get_or ws p [] ++ (a ∷ []) = ap (λ (x : ℕ). get_or ws x []) (sym q) ∙ get_or-number_of (get_or ws p [] ++ (a ∷ [])) ws e in
          let (v, x) = snoc_parts (get_or ws (parent (suc s)) []) (get_or ws p []) (byte (suc s)) a (sym (T.named (suc s) (omega arith) l) ∙ n) in
          let h : parent (suc s) < length ws = omega (arith, T.earlier (suc s) (omega arith) l) in
          (suc s, omega arith, l, sym (number_of-get_or ws T.once (parent (suc s)) h) ∙ ap (λ (w : List ℕ). number_of w ws) v ∙ number_of-get_or ws T.once p hp, x, q)

  -- A child more, at the end.
  pub trie_more : (p a : ℕ) (parent' byte' : ℕ → ℕ) → p < length ws → among (get_or ws p [] ++ (a ∷ [])) ws ≡ false
      → ((s : ℕ) → s < length ws → (parent' s ≡ parent s) × (byte' s ≡ byte s)) → parent' (length ws) ≡ p → byte' (length ws) ≡ a
      → Trie (ws ++ ((get_or ws p [] ++ (a ∷ [])) ∷ [])) parent' byte'
  trie_more p a parent' byte' hp e same q x = record {
    some = omega (arith, longer);
    once = no_repeats_snoc ws w T.once e;
    root = old 0 T.some ∙ T.root;
    earlier = λ s h l. (at s h l (ℕ_discrete s (length ws))).0;
    named = λ s h l. (at s h l (ℕ_discrete s (length ws))).1;
  }
    where
      w : List ℕ
      w = get_or ws p [] ++ (a ∷ [])

      longer : length (ws ++ (w ∷ [])) ≡ length ws + 1
      longer = length-append ws (w ∷ [])

      old : (s : ℕ) → s < length ws → get_or (ws ++ (w ∷ [])) s [] ≡ get_or ws s []
      old s l = get_or-append ws (w ∷ []) [] s l

      at : (s : ℕ) → 0 < s → s < length (ws ++ (w ∷ [])) → Dec (s ≡ length ws)
          → (parent' s < s) × (get_or (ws ++ (w ∷ [])) s [] ≡ get_or (ws ++ (w ∷ [])) (parent' s) [] ++ (byte' s ∷ []))
      at s h l (yes n) =
          let c : parent' s ≡ p = ap parent' n ∙ q in
          let b : byte' s ≡ a = ap byte' n ∙ x in (
            omega arith,
            get_or_at ws w [] [] s (sym n)
                ∙ sym (ap₂ (λ (y z : ℕ). get_or (ws ++ (w ∷ [])) y [] ++ (z ∷ [])) c b ∙ ap (λ (v : List ℕ). v ++ (a ∷ [])) (old p hp)),
          )
      at s h l (no n) =
          let m : s < length ws = omega (arith, longer) in
          let (c, b) = same s m in
          let k : parent s < s = T.earlier s h m in (
            omega arith,
            old s m ∙ T.named s h m
                ∙ sym (ap₂ (λ (y z : ℕ). get_or (ws ++ (w ∷ [])) y [] ++ (z ∷ [])) c b ∙ ap (λ (v : List ℕ). v ++ (byte s ∷ [])) (old (parent s) (omega arith))),
          )
