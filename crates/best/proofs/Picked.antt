-- The best pair of a row, one pair after the other.
use Rattle.std.proofs.Common.{◌≡◌, refl, sym, ◌∙◌, Bool, true, false, ◌⊎◌, inl, inr, Option, Some, None, IfSome, ℕ, ◌+◌, ◌≤◌, ◌<◌, arith}
use Rattle.std.proofs.lemmas.Bool.{false≢true}
use native.Mathlib.Decide.{ℕ_discrete, dec_lt}
use borrow.Author.Tests.{lt-ltb, le-ltb}
use Rattle.best.specs.declared.Pick.{Pick}
use Rattle.best.specs.Picked.{key_found, found_of, InRow, First, Found, Picked}

-- The key of what is found is that of the pair in hand.
pub found_key : (p : Pick) → p.key ≤ 65536 → key_found (found_of p) ≡ p.key
found_key p l =
    elim (dec_lt p.key 65536) [
      | yes h ↦ rw (lt-ltb p.key 65536 h)
      | no h ↦ rw (le-ltb p.key 65536 (omega arith)) (omega arith)
    ]

module _ (n : ℕ) (fits : ℕ → ℕ → Bool) (key : ℕ → ℕ → ℕ) (i : ℕ) where
  module _ (j : ℕ) where
    -- One pair more of the row.
    last : (x y : ℕ) → InRow i (j + 1) x y → InRow i j x y ⊎ ((x ≡ i) × (y ≡ j))
    last x y (e, l) = elim (ℕ_discrete y j) [ yes q ↦ inr (e, q) | no q ↦ inl (e, omega arith) ]

    -- What was found before a place was found before a later one.
    found_before : (h : ℕ) → j ≤ h → (p : Option Pick) → IfSome p (Found n fits key (InRow i j)) → IfSome p (Found n fits key (InRow i h))
    found_before h l None f = f
    found_before h l (Some p) f = record { rising = f.rising; inside = f.inside; member = (f.member.0, omega (arith, f.member.1)); fit = f.fit; keyed = f.keyed }

    module _ (p : Option Pick) (P : Picked n fits key (InRow i j) p) where
      -- The best pair stays where it goes ahead of the next.
      kept : (fits i j ≡ true → First n fits key p i j) → Picked n fits key (InRow i (j + 1)) p
      kept first = record { one = found_before (j + 1) (omega arith) p P.one; ahead = λ x y r b m f. at x y r b f (last x y m) }
        where
          at : (x y : ℕ) → x < y → y < n → fits x y ≡ true → InRow i j x y ⊎ ((x ≡ i) × (y ≡ j)) → First n fits key p x y
          at x y r b f (inl m) = P.ahead x y r b m f
          at x y r b f (inr (e, q)) = rw (e, q) (first (rw (e, q) at f))

      -- Pairs that do not fit are passed over.
      pub picked_passed : (h : ℕ) → j ≤ h → ((y : ℕ) → j ≤ y → y < h → fits i y ≡ false) → Picked n fits key (InRow i h) p
      picked_passed h l unfit =
          record {
            one = found_before h l p P.one;
            ahead = λ x y r b m f. elim (dec_lt y j) [
              | yes q ↦ P.ahead x y r b (m.0, q) f
              | no q ↦ absurd (false≢true (sym (rw m.0 (unfit y (omega arith) m.1)) ∙ f))
            ];
          }

      -- The next pair does not fit.
      pub picked_unfit : fits i j ≡ false → Picked n fits key (InRow i (j + 1)) p
      picked_unfit e = kept (λ t. absurd (false≢true (sym e ∙ t)))

      -- It is better.
      pub picked_better : i < j → j < n → fits i j ≡ true → (a : ℕ) → a ≡ key i j → a < key_found p
          → Picked n fits key (InRow i (j + 1)) (Some (record { key = a; u = i; v = j }))
      picked_better r b t a e less =
          record {
            one = record { rising = r; inside = b; member = (refl, omega arith); fit = t; keyed = e };
            ahead = λ x y s c m f. at x y f (behind p x y (P.ahead x y s c)) (last x y m);
          }
        where
          behind : (p : Option Pick) (x y : ℕ) → (InRow i j x y → fits x y ≡ true → First n fits key p x y) → InRow i j x y → fits x y ≡ true → key_found p ≤ key x y
          behind None x y h m f = absurd (h m f)
          behind (Some p) x y h m f = elim (h m f) [ inl l ↦ omega arith | inr q ↦ omega (arith, q.0) ]

          at : (x y : ℕ) → fits x y ≡ true → (InRow i j x y → fits x y ≡ true → key_found p ≤ key x y) → InRow i j x y ⊎ ((x ≡ i) × (y ≡ j))
              → First n fits key (Some (record { key = a; u = i; v = j })) x y
          at x y f h (inl m) = inl (omega (arith, less, h m f))
          at x y f h (inr (p, q)) = rw (p, q) (inr (e, inr (refl, omega arith)))

    -- It is no better.
    pub picked_worse : (p : Option Pick) → Picked n fits key (InRow i j) p → (a : ℕ) → a ≡ key i j → a < 65536 → key_found p ≤ a → Picked n fits key (InRow i (j + 1)) p
    picked_worse None P a e small l = absurd (omega arith)
    picked_worse (Some p) P a e small l = kept (Some p) P (λ t. go P.one (ℕ_discrete p.key (key i j)))
      where
        go : Found n fits key (InRow i j) p → Dec (p.key ≡ key i j) → First n fits key (Some p) i j
        go f (yes q) = inr (q, inr (f.member.0, omega (arith, f.member.1)))
        go f (no q) = inl (omega arith)
