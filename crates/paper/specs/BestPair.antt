-- The best pair that can be added, and the forest that comes of joining it as long as there is one: what the taking and dropping of pairs one by one comes to, in every order.
use Rattle.std.specs.Prelude.{◌≡◌, ◌⊎◌, ℕ, zero, suc, ◌≤◌, ◌<◌}
use Rattle.paper.specs.Forest.{Trees, joined, joined_longest}

-- A pair of weight w: states below n, the first below the second.
pub record Weighs (n : ℕ) (weight : ℕ → ℕ → ℕ) (w : ℕ) (p : ℕ × ℕ) : Type 0 where
  pub rising : p.0 < p.1
  pub inside : p.1 < n
  pub heavy : weight p.0 p.1 ≡ w

-- The pair can be added: its ends lie in different trees, and the joined tree's longest path is at most D.
pub record Viable (n D : ℕ) (F : Trees) (p : ℕ × ℕ) : Type 0 where
  pub apart : ¬ (F.tree p.0 ≡ F.tree p.1)
  pub short : joined_longest n F p.0 p.1 ≤ D

-- The first pair does not stand behind the second: its first state is smaller, or they share it and its second is not larger.
abbrev pub Earlier : ℕ × ℕ → ℕ × ℕ → Type 0
Earlier p q = (p.0 < q.0) ⊎ ((p.0 ≡ q.0) × (p.1 ≤ q.1))

module _ (n : ℕ) (rest : Trees → ℕ × ℕ → ℕ) where
  -- The first pair is taken before the second, or is the second: its rest is smaller, or they tie and it stands before.
  abbrev pub Ahead : Trees → ℕ × ℕ → ℕ × ℕ → Type 0
  Ahead F p q = (rest F p < rest F q) ⊎ ((rest F p ≡ rest F q) × Earlier p q)

  module _ (D : ℕ) (weight : ℕ → ℕ → ℕ) where
    module _ (w : ℕ) where
      -- The best pair of weight w that can be added to F.
      pub record Best (F : Trees) (q : ℕ × ℕ) : Type 0 where
        pub weighs : Weighs n weight w q
        pub viable : Viable n D F q
        pub ahead : (r : ℕ × ℕ) → Weighs n weight w r → Viable n D F r → Ahead F q r

      -- No pair of weight w can be added to F.
      abbrev pub NoneViable : Trees → Type 0
      NoneViable F = (q : ℕ × ℕ) → Weighs n weight w q → ¬ Viable n D F q

      -- F becomes G by so many joins, each of the best pair of weight w that can be added, and then none can.
      abbrev pub JoinsBest : ℕ → Trees → Trees → Type 0
      JoinsBest zero F G = NoneViable F × (G ≡ F)
      JoinsBest (suc more) F G = (q : ℕ × ℕ) × (Best F q) × JoinsBest more (joined F q.0 q.1) G

    -- F becomes G so weight by weight, from w down to 1.
    abbrev pub JoinsAll : ℕ → Trees → Trees → Type 0
    JoinsAll zero F G = G ≡ F
    JoinsAll (suc w) F G = (H : Trees) × ((joins : ℕ) × JoinsBest (suc w) joins F H) × JoinsAll w H G
