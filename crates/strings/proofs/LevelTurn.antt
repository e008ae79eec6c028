-- One state of the level that is being filled: its link is read, set down, and its row filled from the link's row.
use mathlib.Core.Path.{◌≡◌, refl, sym, ap, ◌∙◌}
use mathlib.Core.Bool.{cond}
use mathlib.Core.Logic.{inl}
use mathlib.Core.List.{List}
use Prim.Native.Nat.{ℕ, zero, suc, ◌+◌, ◌*◌, ◌≤◌, ◌<◌}
use native.Mathlib.Decide.{ℕ_discrete}
use native.Mathlib.Omega.{arith}
use lib.Dec.{eqb}
use lib.ListN.{length, get_or, set}
use borrow.Author.Tests.{eq-eqb, ne_eqb}
use Rattle.paper.specs.Strings.{Rule, names}
use Rattle.strings.proofs.Names.{empty_first}
use Rattle.strings.proofs.LinkStates.{name, link, link_name, link_shorter}
use Rattle.strings.proofs.Trie.{Trie, trie_length}
use Rattle.strings.proofs.Filling.{link_flat}
use Rattle.strings.proofs.RowsFilled.{RowFilled, Filled, link_read, filled_skip, filled_more, filled-level}

-- The link of a state by its parent and last byte: 0 where the parent is state 0, else what the row of the parent's link has on the byte.
unfoldable pub link_read_of : List ℕ → List ℕ → ℕ → ℕ → ℕ
link_read_of rows links p a = cond (eqb p 0) 0 (get_or rows (get_or links p 0 * 256 + a) 0)

-- Arrays that hold the parent, the last byte and the length of the name of each of n states.
pub record Prepared (rs : List Rule) (parent last long : List ℕ) (n : ℕ) : Type 0 where
  pub some : 0 < length rs
  pub count : length (names rs) ≡ n
  pub few : n ≤ 512
  pub trie : Trie (names rs) (λ s. get_or parent s 0) (λ s. get_or last s 0)
  pub small : (s : ℕ) → 0 < s → s < n → get_or last s 0 < 256
  pub longs : (s : ℕ) → s < n → get_or long s 0 ≡ length (name rs s)

module _ (rs : List Rule) (parent last long : List ℕ) (n : ℕ) (P : Prepared rs parent last long n) (rows links : List ℕ) (L s : ℕ) (hs : s < n) (F : Filled rs rows links L s) where
  -- A state of another length is passed.
  pub turn_skip : ¬ (get_or long s 0 ≡ L) → Filled rs rows links L (s + 1)
  turn_skip d = let e : s + 1 ≡ suc s = omega arith in rw e (filled_skip rs rows links L s F (λ q. d (P.longs s hs ∙ q)))

  module _ (deep : get_or long s 0 ≡ L) (up : 0 < L) where
    below : s < length (names rs)
    below = omega (arith, P.count)

    deep' : length (name rs s) ≡ L
    deep' = sym (P.longs s hs) ∙ deep

    -- It is not state 0, of which the name is empty.
    pub turn_far : 0 < s
    turn_far = go s refl
      where
        go : (x : ℕ) → s ≡ x → 0 < s
        go zero e = absurd (omega (arith, deep', ap (λ (y : ℕ). length (name rs y)) e, ap length (empty_first rs).0))
        go (suc x) e = omega arith

    -- What is read is its link.
    pub turn_link : link_read_of rows links (get_or parent s 0) (get_or last s 0) ≡ link rs s
    unfolding link_read_of
    turn_link = go (ℕ_discrete (get_or parent s 0) 0)
      where
        go : Dec (get_or parent s 0 ≡ 0) → cond (eqb (get_or parent s 0) 0) 0 (get_or rows (get_or links (get_or parent s 0) 0 * 256 + get_or last s 0) 0) ≡ link rs s
        go (yes e) =
            rw (eq-eqb (get_or parent s 0) 0 e) (sym (link_flat rs P.some (λ s. get_or parent s 0) (λ s. get_or last s 0) P.trie s turn_far below e))
        go (no e) =
            rw (ne_eqb (get_or parent s 0) 0 e)
            (link_read rs rows links L s F P.some (λ s. get_or parent s 0) (λ s. get_or last s 0) P.trie below deep' turn_far (P.small s turn_far hs) e)

    -- The parent and its link are states, and so is the link, which is another state.
    pub turn_bounds : (get_or parent s 0 < n) × (get_or links (get_or parent s 0) 0 < n) × (link rs s < n) × (¬ (link rs s ≡ s))
    turn_bounds =
        let e : get_or parent s 0 < s = P.trie.earlier s turn_far below in
        let d : suc (length (name rs (get_or parent s 0))) ≡ L = sym (trie_length (names rs) (λ s. get_or parent s 0) (λ s. get_or last s 0) P.trie s turn_far below) ∙ deep' in
        let l = F.links_done (get_or parent s 0) (omega arith) (inl (omega arith)) in (
          omega arith,
          omega (arith, l, (link_name rs P.some (get_or parent s 0)).0, P.count),
          omega (arith, (link_name rs P.some s).0, P.count),
          λ q. absurd (omega (arith, link_shorter rs P.some s (omega (arith, deep')), ap (λ (y : ℕ). length (name rs y)) q)),
        )

    -- With the link set and the row filled the state is done.
    pub turn_more : (rows' : List ℕ) (l : ℕ) → length links ≡ 512 → l ≡ link rs s → RowFilled rows rows' s l 256 → Filled rs rows' (set links s l) L (s + 1)
    turn_more rows' l big q R =
        let e : s + 1 ≡ suc s = omega arith in
        rw (e, q) (filled_more rs rows links L s F P.some (λ s. get_or parent s 0) (λ s. get_or last s 0) P.trie below deep' turn_far rows' (omega (arith, P.few)) (rw (← q) R))

-- After the last state the next level begins.
pub turn_level : (rs : List Rule) (parent last long : List ℕ) (n : ℕ) → Prepared rs parent last long n → (rows links : List ℕ) (L : ℕ)
    → Filled rs rows links L n → Filled rs rows links (L + 1) 0
turn_level rs parent last long n P rows links L F =
    let e : L + 1 ≡ suc L = omega arith in
    rw e (filled-level rs rows links L (rw P.count F))
