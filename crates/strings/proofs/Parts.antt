-- Parts of a list of bytes.
use mathlib.Core.Path.{◌≡◌, ap, ◌∙◌}
use mathlib.Core.List.{List, [], ◌∷◌, ◌++◌}
use Prim.Native.Nat.{ℕ, suc, ◌+◌, ◌≤◌, ◌<◌}
use native.Mathlib.Omega.{arith}
use lib.ListN.{length, take, drop, length-drop}
use lib.Seq.{length-take-le, get_or-drop, take-suc}
use Rattle.paper.specs.Words.{byte_at}

module _ (b : List ℕ) where
  -- So many bytes from a place on.
  abbrev pub part : ℕ → ℕ → List ℕ
  part at long = take long (drop at b)

  -- They are so many.
  pub part_length : (at long : ℕ) → at + long ≤ length b → length (part at long) ≡ long
  part_length at long h = length-take-le long (drop at b) (omega (arith, length-drop at b))

  -- One byte more.
  pub part_more : (at long : ℕ) → at + long < length b → part at (suc long) ≡ part at long ++ (byte_at b (at + long) ∷ [])
  part_more at long h =
      take-suc (drop at b) long 0 (omega (arith, length-drop at b)) ∙ ap (λ (x : ℕ). take long (drop at b) ++ (x ∷ [])) (get_or-drop at b long 0)
