-- The text of `bounds`: that an input is too long, or is refused, or four lines with the figures of what compact leaves.
use mathlib.Core.Path.{◌≡◌, refl, ap, ◌∙◌}
use mathlib.Core.List.{List, [], ◌∷◌, ◌++◌, append_assoc}
use Prim.Native.Nat.{ℕ, zero, suc, ◌≤◌, ◌<◌}
use lib.ListN.{length}
use borrow.Author.Tests.{lt-ltb, le-ltb}
use Rattle.paper.specs.Below.{each}
use Rattle.paper.specs.Image.{depth, entries, worst}
use Rattle.paper.specs.Operations.{judge_table_of, result, compact}
use Rattle.paper.specs.Text.{line, refused_line, too_long_line, lines_or}
use Rattle.paper.specs.Programs.{defaults_in_of, bounds_header, bounds_line, bounds_text_of}
use Rattle.paper.specs.Promises.{PrintsBounds}
use Rattle.paper.proofs.Below.{each_same}
use Rattle.figures.proofs.Lines.{compacted-left}

module _ (input : List ℕ) where
  -- An input of more than 30,000 bytes is too long.
  pub text_too_long : 30000 < length input → bounds_text_of input ≡ too_long_line
  unfolding bounds_text_of
  text_too_long h = rw (lt-ltb 30000 (length input) h)

  module _ (few : length input ≤ 30000) where
    -- Of any other the judge's number decides.
    text_judged : bounds_text_of input ≡ lines_or (judge_table_of input) (bounds_header ++ each 4 (bounds_line input))
    unfolding bounds_text_of
    text_judged = rw (le-ltb 30000 (length input) few)

    -- It is refused.
    pub text_refused : ¬ (judge_table_of input ≡ 0) → bounds_text_of input ≡ refused_line (judge_table_of input)
    text_refused n = text_judged ∙ go (judge_table_of input) n
      where
        go : (number : ℕ) → ¬ (number ≡ 0) → lines_or number (bounds_header ++ each 4 (bounds_line input)) ≡ refused_line number
        go zero n = absurd (n refl)
        go (suc number) n = refl

    -- Or it is accepted, and there is a line for each of the four bounds.
    pub text_lines : judge_table_of input ≡ 0 → bounds_text_of input ≡ bounds_header ++ each 4 (bounds_line input)
    text_lines e = text_judged ∙ ap (λ (number : ℕ). lines_or number (bounds_header ++ each 4 (bounds_line input))) e

    -- The same with the lines one by one.
    pub text_four : judge_table_of input ≡ 0 → bounds_text_of input ≡ bounds_header ++ (bounds_line input 0 ++ (bounds_line input 1 ++ (bounds_line input 2 ++ bounds_line input 3)))
    text_four e = text_lines e ∙ simp append_assoc

-- A line's image is the one that compact leaves in any room of 65,536 bytes.
line-left : (input : List ℕ) (D : ℕ) (room : List ℕ) → length input ≤ 30000 → judge_table_of input ≡ 0 → 65536 ≤ length room
    → let b = result (compact input 0 D room) in bounds_line input D ≡ line (D ∷ depth b ∷ worst b ∷ entries b ∷ defaults_in_of b ∷ length b ∷ [])
unfolding bounds_line
line-left input D room few e wide = rw (compacted-left input D room few wide e)

-- What the program `bounds` prints: of an input of more than 30,000 bytes `too long`; of one that the judge refuses its number; of any other the header, and for each of the bounds 0 to 3 a line that holds
-- the bound and the depth, worst, entries, defaults and length of the image that compact leaves.
pub bounds_text : (input text : List ℕ) → PrintsBounds input text
    → (30000 < length input → text ≡ too_long_line)
    × (length input ≤ 30000 → ¬ (judge_table_of input ≡ 0) → text ≡ refused_line (judge_table_of input))
    × (length input ≤ 30000 → judge_table_of input ≡ 0 → (room : List ℕ) → 65536 ≤ length room → text ≡ bounds_header ++ each 4 (λ D. let b = result (compact input 0 D room) in line (D ∷ depth b ∷ worst b ∷ entries b ∷ defaults_in_of b ∷ length b ∷ [])))
bounds_text input text P = (
  λ h. P ∙ text_too_long input h,
  λ few n. P ∙ text_refused input few n,
  λ few e room wide. P ∙ text_lines input few e
      ∙ ap (λ (lines : List ℕ). bounds_header ++ lines) (each_same 4 (bounds_line input) _ (λ D h. line-left input D room few e wide)),
)
