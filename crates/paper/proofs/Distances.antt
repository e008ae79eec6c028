-- The distances of the definition are true: they are the lengths of the paths over the pairs added.
use mathlib.Core.Path.{◌≡◌, refl, sym, ap, ◌∙◌, subst}
use mathlib.Core.Logic.{◌⊎◌, inl, inr}
use mathlib.Core.List.{List, [], ◌∷◌, ◌++◌}
use Prim.Native.Nat.{ℕ, ◌+◌}
use native.Mathlib.Omega.{arith}
use lib.ListN.{length, length-append}
use Rattle.paper.specs.Forest.{Trees, singles, joined}
use Rattle.paper.specs.Paths.{Among, Over, Once, Crosses, Leads, Path, TrueDistances}
use Rattle.paper.proofs.Join.{Mates}
use Rattle.paper.proofs.Bridge.{Reached, Bridge, turned, joined_bridge}
use Rattle.paper.proofs.Paths.{Cut, At, among-append, among-left, among-right, leads_append, leads_cut, find_pair, once_append, once_left, once_right, over_others}

-- Single states.
pub singles_true : TrueDistances singles
unfolding singles
singles_true =
    record {
      way = λ x y m. ([], record { leads = m; over = λ p h. h; once = tt }, refl);
      all = λ x y ps. still x y ps;
    }
  where
    still : (x y : ℕ) (ps : List (ℕ × ℕ)) → Path [] x y ps → Mates singles x y × (length ps ≡ 0)
    still x y [] P = (P.leads, refl)
    still x y (p ∷ ps) P = absurd (P.over p (inl refl))

module _ (F : Trees) (T : TrueDistances F) where
  -- The ends of a pair added are in one tree.
  ends_mates : (p : ℕ × ℕ) → Among p F.added → Mates F p.0 p.1
  ends_mates p h = (T.all p.0 p.1 (p ∷ []) (record { leads = (p.1, inl (refl, refl), refl); over = one; once = (λ n. n, tt) })).0
    where
      one : Over (p ∷ []) F.added
      one q (inl e) = subst (λ (r : ℕ × ℕ). Among r F.added) (sym e) h
      one q (inr n) = absurd n

  -- A path stays in the tree in which it begins.
  stays : (ps : List (ℕ × ℕ)) (x y : ℕ) → Leads ps x y → Over ps F.added → (p : ℕ × ℕ) → Among p ps → Mates F x p.0
  stays [] x y l o p h = absurd h
  stays (q ∷ ps) x y (z, c, l) o p h = go c h (stays ps z y l (λ r k. o r (inr k)) p)
    where
      m : Mates F q.0 q.1
      m = ends_mates q (o q (inl refl))

      begins : Crosses q x z → Mates F x q.0
      begins (inl e) = ap F.tree e.0
      begins (inr e) = ap F.tree e.0 ∙ sym m

      crossed : Crosses q x z → Mates F x z
      crossed (inl e) = ap F.tree e.0 ∙ m ∙ sym (ap F.tree e.1)
      crossed (inr e) = ap F.tree e.0 ∙ sym m ∙ sym (ap F.tree e.1)

      go : Crosses q x z → (p ≡ q) ⊎ Among p ps → (Among p ps → Mates F z p.0) → Mates F x p.0
      go c (inl e) ih = begins c ∙ ap (λ (r : ℕ × ℕ). F.tree r.0) (sym e)
      go c (inr k) ih = crossed c ∙ ih k

  module _ (u v : ℕ) (apart : ¬ Mates F u v) where
    -- A path from x's end of the pair over it to y's end.
    bridge : (x a b y : ℕ) → Crosses (u, v) a b → ¬ Mates F a b → Mates F x a → Mates F b y
        → (ps : List (ℕ × ℕ)) × (Path ((u, v) ∷ F.added) x y ps) × (length ps ≡ F.distance x a + 1 + F.distance b y)
    bridge x a b y c far mx my =
        let (p, P, lp) = T.way x a mx in
        let (q, Q, lq) = T.way b y my in (
          p ++ ((u, v) ∷ q),
          record {
            leads = leads_append p ((u, v) ∷ q) x a y P.leads (b, c, Q.leads);
            over = λ r h. among p q P.over Q.over r (among-append r p ((u, v) ∷ q) h);
            once = once_append p ((u, v) ∷ q) P.once (λ h. new (Q.over (u, v) h), Q.once) (λ r h k. split p q P Q r h k);
          },
          length-append p ((u, v) ∷ q) ∙ omega (arith, lp, lq),
        )
      where
        new : ¬ Among (u, v) F.added
        new h = apart (ends_mates (u, v) h)

        among : (p q : List (ℕ × ℕ)) → Over p F.added → Over q F.added → (r : ℕ × ℕ) → Among r p ⊎ Among r ((u, v) ∷ q) → Among r ((u, v) ∷ F.added)
        among p q o k r (inl h) = inr (o r h)
        among p q o k r (inr (inl e)) = inl e
        among p q o k r (inr (inr h)) = inr (k r h)

        split : (p q : List (ℕ × ℕ)) → Path F.added x a p → Path F.added b y q → (r : ℕ × ℕ) → Among r p → Among r ((u, v) ∷ q) → ⊥
        split p q P Q r h (inl e) = new (subst (λ (s : ℕ × ℕ). Among s F.added) e (P.over r h))
        split p q P Q r h (inr k) =
            far (sym mx ∙ stays p x a P.leads P.over r h ∙ sym (stays q b y Q.leads Q.over r k))

    abbrev G : Trees
    G = joined F u v

    -- A way in the joined tree: within one tree, or over the pair from a's end to b's.
    way_over : (a b : ℕ) → Crosses (u, v) a b → ¬ Mates F a b → Bridge F G a b → (x y : ℕ) → Reached F a b x y
        → (ps : List (ℕ × ℕ)) × (Path ((u, v) ∷ F.added) x y ps) × (length ps ≡ G.distance x y)
    way_over a b c far B x y (inl h) =
        let (ps, P, l) = T.way x y h in
        (ps, record { leads = P.leads; over = λ p k. inr (P.over p k); once = P.once }, l ∙ sym (B.same x y h))
    way_over a b c far B x y (inr (hx, hy)) =
        let (ps, P, l) = bridge x a b y c far (sym hx) hy in (ps, P, l ∙ sym (B.over x y hx hy))

    joined_way : (x y : ℕ) → Mates G x y → (ps : List (ℕ × ℕ)) × (Path ((u, v) ∷ F.added) x y ps) × (length ps ≡ G.distance x y)
    joined_way x y m =
        let B = joined_bridge F u v apart in
        elim (B.faces x) [
          | inl s ↦ way_over u v (inl (refl, refl)) apart B x y (s y m)
          | inr s ↦ way_over v u (inr (refl, refl)) (λ e. apart (sym e)) (turned B) x y (s y m)
        ]

    -- A path that takes the pair once.
    across : (x y : ℕ) (p q : List (ℕ × ℕ)) → Path ((u, v) ∷ F.added) x y (p ++ ((u, v) ∷ q)) → ¬ Among (u, v) p
        → Mates G x y × (length (p ++ ((u, v) ∷ q)) ≡ G.distance x y)
    across x y p q P first = go C.over
      where
        C : Cut p q (u, v) x y
        C = leads_cut p q (u, v) x y P.leads

        rest : Once ((u, v) ∷ q)
        rest = once_right p ((u, v) ∷ q) P.once

        begin : Mates F x C.from × (length p ≡ F.distance x C.from)
        begin =
            T.all x C.from p
            (record {
              leads = C.first;
              over = over_others (u, v) p F.added (λ r h. P.over r (among-left r p ((u, v) ∷ q) h)) first;
              once = once_left p ((u, v) ∷ q) P.once;
            })

        end : Mates F C.to y × (length q ≡ F.distance C.to y)
        end =
            T.all C.to y q
            (record {
              leads = C.then;
              over = over_others (u, v) q F.added (λ r h. P.over r (among-right r p ((u, v) ∷ q) (inr h))) rest.0;
              once = rest.1;
            })

        long : length (p ++ ((u, v) ∷ q)) ≡ F.distance x C.from + 1 + F.distance C.to y
        long = length-append p ((u, v) ∷ q) ∙ omega (arith, begin.1, end.1)

        over_pair : (a b : ℕ) → Bridge F G a b → C.from ≡ a → C.to ≡ b → Mates G x y × (length (p ++ ((u, v) ∷ q)) ≡ G.distance x y)
        over_pair a b B ea eb =
            let hx : Mates F a x = sym (begin.0 ∙ ap F.tree ea) in
            let hy : Mates F b y = sym (ap F.tree eb) ∙ end.0 in
            (B.meet x y hx hy, long ∙ rw (ea, eb) (sym (B.over x y hx hy)))

        go : Crosses (u, v) C.from C.to → Mates G x y × (length (p ++ ((u, v) ∷ q)) ≡ G.distance x y)
        go (inl (a, b)) = over_pair u v (joined_bridge F u v apart) a b
        go (inr (a, b)) = over_pair v u (turned (joined_bridge F u v apart)) a b

    -- Every path in the joined tree.
    joined_all : (x y : ℕ) (ps : List (ℕ × ℕ)) → Path ((u, v) ∷ F.added) x y ps
        → Mates G x y × (length ps ≡ G.distance x y)
    joined_all x y ps P = go (find_pair (u, v) ps)
      where
        go : (¬ Among (u, v) ps) ⊎ At (u, v) ps → Mates G x y × (length ps ≡ G.distance x y)
        go (inl n) =
            let (m, l) = T.all x y ps (record { leads = P.leads; over = over_others (u, v) ps F.added P.over n; once = P.once }) in
            let B = joined_bridge F u v apart in
            (B.keep x y m, l ∙ sym (B.same x y m))
        go (inr A) =
            subst (λ (qs : List (ℕ × ℕ)). Mates G x y × (length qs ≡ G.distance x y)) (sym A.here)
            (across x y A.before A.after (subst (λ (qs : List (ℕ × ℕ)). Path ((u, v) ∷ F.added) x y qs) A.here P) A.first)

    -- Joining two trees by a pair keeps distances true.
    pub joined_true : TrueDistances (joined F u v)
    unfolding joined
    joined_true = record { way = joined_way; all = joined_all }
