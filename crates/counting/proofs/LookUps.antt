-- The look-ups of a payload, byte by byte: one for each byte, each from a state that is there.
use mathlib.Core.Path.{◌≡◌, refl, ap, ◌∙◌}
use mathlib.Core.List.{List, [], ◌∷◌, map}
use Prim.Native.Nat.{ℕ, suc, ◌+◌, ◌<◌}
use native.Mathlib.Numerals.{add-one}
use lib.ListN.{length, drop, get_or}
use lib.Seq.{drop-cons}
use Rattle.paper.specs.Below.{sum}
use Rattle.paper.specs.Words.{Bytes}
use Rattle.paper.specs.View.{Found, look}
use Rattle.paper.specs.Image.{states, start, class_of, image_view}
use Rattle.paper.specs.Programs.{how_often, look_ups}
use Rattle.facts.proofs.ImageFacts.{AcceptedImage}
use Rattle.scan.proofs.Found.{look-reached}
use Rattle.counting.proofs.HowOften.{AllBelow, how_often_sum}

module _ (look : ℕ → ℕ → Found) (class_of : ℕ → ℕ) (of : ℕ × Found → ℕ) where
  -- What is taken of each look-up of a payload from a state.
  abbrev pub taken : ℕ → List ℕ → List ℕ
  taken s payload = map of (look_ups look class_of s payload)

  -- There is one for each byte.
  pub taken_length : (s : ℕ) (payload : List ℕ) → length (taken s payload) ≡ length payload
  taken_length s [] = refl
  taken_length s (x ∷ xs) = ap suc (taken_length (look s (class_of x)).target xs)

  -- From the byte at i on: the first is that byte's, the rest go on from its target.
  pub taken_next : (s : ℕ) (payload : List ℕ) (i : ℕ) → i < length payload
      → let f = look s (class_of (get_or payload i 0)) in taken s (drop i payload) ≡ of (s, f) ∷ taken f.target (drop (i + 1) payload)
  taken_next s payload i h = rw (add-one i, drop-cons payload i 0 h)

module _ (b : List ℕ) (A : AcceptedImage b) (of : ℕ × Found → ℕ) (inside : (s x : ℕ) → s < states b → x < 256 → of (s, look (image_view b) s (class_of b x)) < states b) where
  -- In an accepted image what is taken of each look-up is a state, where it is one for each state and byte.
  taken_below : (s : ℕ) (payload : List ℕ) → s < states b → Bytes payload → AllBelow (states b) (taken (look (image_view b)) (class_of b) of s payload)
  taken_below s [] hs B = refl
  taken_below s (x ∷ xs) hs B =
      let hx : x < 256 = B 0 in
      (inside s x hs hx, taken_below (look (image_view b) s (class_of b x)).target xs (look-reached b A s (class_of b x) hs (A.all_classed.below x hx)).inside (λ i. B (suc i)))

  -- So a column of them sums to the bytes of the payload.
  pub column_sum : (payload : List ℕ) → Bytes payload
      → sum (states b) (λ s. how_often s (taken (look (image_view b)) (class_of b) of (start b) payload)) ≡ length payload
  column_sum payload B =
      how_often_sum (states b) (taken (look (image_view b)) (class_of b) of (start b) payload) (taken_below (start b) payload A.begins B)
      ∙ taken_length (look (image_view b)) (class_of b) of (start b) payload
