-- Rows filled by rising length of the names: first the children stand in them, then every empty place is taken from the row of the failure link.
use mathlib.Core.Path.{◌≡◌, refl, sym, ap, ◌∙◌}
use mathlib.Core.Bool.{Bool, true, false, cond}
use mathlib.Core.Logic.{◌⊎◌, inl, inr}
use mathlib.Core.List.{List, [], ◌∷◌, ◌++◌}
use Prim.Native.Nat.{ℕ, zero, suc, ◌<◌}
use native.Mathlib.Decide.{ℕ_discrete}
use native.Mathlib.Omega.{arith}
use lib.Dec.{eqb}
use lib.ListN.{length}
use borrow.Author.Tests.{ne_eqb}
use Rattle.paper.specs.Strings.{Rule, among, names}
use Rattle.strings.proofs.Names.{empty_first}
use Rattle.strings.proofs.Snoc.{snoc_some}
use Rattle.strings.proofs.Stands.{goes}
use Rattle.strings.proofs.Children.{child_in}
use Rattle.strings.proofs.LinkStates.{name, link, HasChild, child, child_name, goes_child, goes_empty, goes_falls, link_child, link_child_empty}
use Rattle.strings.proofs.Trie.{Trie, trie_found}

module _ (rs : List Rule) where
  -- No child is state 0.
  pub child_above : (s a : ℕ) → HasChild rs s a → 0 < child rs s a
  child_above s a h = go (child rs s a) refl
    where
      go : (c : ℕ) → child rs s a ≡ c → 0 < child rs s a
      go zero e = absurd (snoc_some (name rs s) a (sym (child_name rs s a h).1 ∙ ap (name rs) e ∙ (empty_first rs).0))
      go (suc c) e = omega arith

  -- In the row of state 0 the children are all there is.
  pub fill_first : (a : ℕ) → child_in (names rs) 0 a ≡ goes rs 0 a
  unfolding child_in
  fill_first a = go (among (name rs 0 ++ (a ∷ [])) (names rs)) refl
    where
      go : (b : Bool) → among (name rs 0 ++ (a ∷ [])) (names rs) ≡ b → cond b (child rs 0 a) 0 ≡ goes rs 0 a
      go true e = sym (goes_child rs 0 a e)
      go false e = sym (goes_empty rs a (ap (λ (w : List ℕ). among (w ++ (a ∷ [])) (names rs)) (sym (empty_first rs).0) ∙ e))

  module _ (some : 0 < length rs) where
    -- In any other row a place without child is taken from the row of the failure link.
    pub fill_place : (s a : ℕ) → 0 < length (name rs s) → cond (eqb (child_in (names rs) s a) 0) (goes rs (link rs s) a) (child_in (names rs) s a) ≡ goes rs s a
    unfolding child_in
    fill_place s a h = go (among (name rs s ++ (a ∷ [])) (names rs)) refl
      where
        go : (b : Bool) → among (name rs s ++ (a ∷ [])) (names rs) ≡ b
            → cond (eqb (cond b (child rs s a) 0) 0) (goes rs (link rs s) a) (cond b (child rs s a) 0) ≡ goes rs s a
        go true e = rw (ne_eqb (child rs s a) 0 (λ z. absurd (omega (arith, child_above s a e)))) (sym (goes_child rs s a e))
        go false e = sym (goes_falls rs some s a h e)

    module _ (parent byte : ℕ → ℕ) (T : Trie (names rs) parent byte) where
      -- A state is the child of its parent on its last byte.
      pub is_child : (s : ℕ) → 0 < s → s < length (names rs) → HasChild rs (parent s) (byte s) × (child rs (parent s) (byte s) ≡ s)
      is_child s h l = trie_found (names rs) parent byte T (parent s) (byte s) s h l refl refl

      -- The link of a state whose parent is not state 0 is where its last byte leads from the link of the parent.
      pub link_deep : (s : ℕ) → 0 < s → s < length (names rs) → 0 < length (name rs (parent s)) → link rs s ≡ goes rs (link rs (parent s)) (byte s)
      link_deep s h l d = let (c, e) = is_child s h l in ap (link rs) (sym e) ∙ link_child rs some (parent s) (byte s) d c

      -- The link of a state whose parent is state 0 is state 0.
      pub link_flat : (s : ℕ) → 0 < s → s < length (names rs) → parent s ≡ 0 → link rs s ≡ 0
      link_flat s h l z =
          let (c, e) = is_child s h l in
          ap (link rs) (sym e) ∙ ap (λ (p : ℕ). link rs (child rs p (byte s))) z ∙ link_child_empty rs some (byte s) (rw (← z) c)

-- The order of filling: a state is done where its name is shorter than L, or as long and its number below s.
abbrev pub Done : (ℕ → ℕ) → ℕ → ℕ → ℕ → Type 0
Done long L s q = (long q < L) ⊎ ((long q ≡ L) × (q < s))

-- After a state of another length nothing more is done.
pub done_skip : (long : ℕ → ℕ) (L s q : ℕ) → ¬ (long s ≡ L) → Done long L (suc s) q → Done long L s q
done_skip long L s q n (inl h) = inl h
done_skip long L s q n (inr (e, h)) = go (ℕ_discrete q s)
  where
    go : Dec (q ≡ s) → Done long L s q
    go (yes w) = absurd (n (ap long (sym w) ∙ e))
    go (no w) = inr (e, omega arith)

-- After a state of this length it is done, and what was.
pub done_more : (long : ℕ → ℕ) (L s q : ℕ) → Done long L (suc s) q → (q ≡ s) ⊎ Done long L s q
done_more long L s q (inl h) = inr (inl h)
done_more long L s q (inr (e, h)) = go (ℕ_discrete q s)
  where
    go : Dec (q ≡ s) → (q ≡ s) ⊎ Done long L s q
    go (yes w) = inl w
    go (no w) = inr (inr (e, omega arith))

-- After all states of one length the next length begins.
pub done_level : (long : ℕ → ℕ) (L n q : ℕ) → q < n → Done long (suc L) 0 q → Done long L n q
done_level long L n q h (inl l) = go (ℕ_discrete (long q) L)
  where
    go : Dec (long q ≡ L) → Done long L n q
    go (yes e) = inr (e, h)
    go (no e) = inl (omega arith)
done_level long L n q h (inr (e, l)) = absurd (omega arith)
