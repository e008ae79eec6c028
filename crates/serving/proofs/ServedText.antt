-- The text of `served`: that an input is too long, or is refused, or a line for each state.
use mathlib.Core.Path.{◌≡◌, refl, ap, ◌∙◌}
use mathlib.Core.List.{List, map}
use Prim.Native.Nat.{ℕ, zero, suc, ◌≤◌, ◌<◌}
use lib.ListN.{length, take, drop}
use borrow.Author.Tests.{lt-ltb, le-ltb}
use Rattle.paper.specs.Below.{sum}
use Rattle.paper.specs.Words.{Bytes}
use Rattle.paper.specs.Image.{states}
use Rattle.paper.specs.Operations.{judge_image_of}
use Rattle.paper.specs.Text.{refused_line, too_long_line, lines_or}
use Rattle.paper.specs.Programs.{how_often, served_lines, image_end_of, served_text_of}
use Rattle.paper.specs.Promises.{PrintsServed}
use Rattle.facts.proofs.ImageFacts.{accepted_image}
use Rattle.counting.specs.Columns.{look_ups_of, server_of, running_of}
use Rattle.counting.proofs.LookUps.{column_sum}
use Rattle.counting.proofs.Counting.{server_inside}

module _ (input : List ℕ) where
  -- The image that the input begins with, and the payload behind it.
  abbrev image : List ℕ
  image = take (image_end_of input) input

  abbrev payload : List ℕ
  payload = drop (image_end_of input) input

  -- An input of more than 60,000 bytes is too long.
  pub text_too_long : 60000 < length input → served_text_of input ≡ too_long_line
  unfolding served_text_of
  text_too_long h = rw (lt-ltb 60000 (length input) h)

  module _ (few : length input ≤ 60000) where
    -- Of any other the judge's number decides.
    text_judged : served_text_of input ≡ lines_or (judge_image_of image) (served_lines image payload)
    unfolding served_text_of
    text_judged = rw (le-ltb 60000 (length input) few)

    -- It is refused.
    pub text_refused : ¬ (judge_image_of (take (image_end_of input) input) ≡ 0) → served_text_of input ≡ refused_line (judge_image_of (take (image_end_of input) input))
    text_refused n = text_judged ∙ go (judge_image_of image) n
      where
        go : (number : ℕ) → ¬ (number ≡ 0) → lines_or number (served_lines image payload) ≡ refused_line number
        go zero n = absurd (n refl)
        go (suc number) n = refl

    -- Or it is accepted, and there is a line for each state.
    pub text_lines : judge_image_of (take (image_end_of input) input) ≡ 0 → served_text_of input ≡ served_lines (take (image_end_of input) input) (drop (image_end_of input) input)
    text_lines e = text_judged ∙ ap (λ (number : ℕ). lines_or number (served_lines image payload)) e

-- What the program `served` prints: of an input of more than 60,000 bytes `too long`; of one whose image the judge refuses the number; of any other the lines of the image and the payload.
pub served_text : (input text : List ℕ) → PrintsServed input text
    → (60000 < length input → text ≡ too_long_line)
    × (length input ≤ 60000 → ¬ (judge_image_of (take (image_end_of input) input) ≡ 0) → text ≡ refused_line (judge_image_of (take (image_end_of input) input)))
    × (length input ≤ 60000 → judge_image_of (take (image_end_of input) input) ≡ 0 → text ≡ served_lines (take (image_end_of input) input) (drop (image_end_of input) input))
served_text input text P = (λ h. P ∙ text_too_long input h, λ few n. P ∙ text_refused input few n, λ few e. P ∙ text_lines input few e)

-- Both columns sum to the bytes taken, which are all of the payload: how often each state served, and how often it was the running state.
pub columns_sum : (b payload : List ℕ) → judge_image_of b ≡ 0 → Bytes payload
    → (sum (states b) (λ s. how_often s (map server_of (look_ups_of b payload))) ≡ length payload)
    × (sum (states b) (λ s. how_often s (map running_of (look_ups_of b payload))) ≡ length payload)
columns_sum b payload e B =
    let A = accepted_image b e in
    (column_sum b A server_of (server_inside b A) payload B, column_sum b A running_of (λ s x hs hx. hs) payload B)
