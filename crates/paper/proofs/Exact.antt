-- For each operation: the number answered is that of the first of the paper's sentences that holds, 0 where none does.
use mathlib.Core.Path.{◌≡◌, refl, sym, ◌∙◌}
use mathlib.Core.Logic.{◌↔◌, inr}
use mathlib.Core.List.{List}
use Prim.Native.Nat.{ℕ, zero, suc, ◌*◌, ◌<◌}
use lib.Dec.{ltb}
use lib.ListN.{length}
use Rattle.paper.specs.Below.{any, differ}
use Rattle.paper.specs.Refusals.{Ground, first}
use Rattle.paper.specs.Labels.{one, two}
use Rattle.paper.specs.Table.{states, table_grounds}
use Rattle.paper.specs.View.{default_bad_of, endless}
use Rattle.paper.specs.Image as image
use Rattle.paper.specs.Image.{image_grounds}
use Rattle.paper.specs.Results.{table_view, image_of, moved, table_of}
use Rattle.paper.specs.Scan.{Run, scan_of, walk_of}
use Rattle.paper.specs.Operations.{judge_table_of, judge_image_of, building, scanning, listed, compacted, compact_grounds, compact, write_grounds, write, expand_grounds, expand, rewrite_grounds, rewrite, strings_grounds, strings, reduce_grounds, reduce, forward_grounds, forward, back_grounds, back, run_grounds, scan_grounds, scan, walk_grounds, walk, judge_patch_of, apply_grounds, apply, patched_scan_grounds, patched_scan}
use Rattle.paper.specs.Sentences.{Sentence, FirstOf, DefaultWrong, NotWorth, Returns, table_sentences, image_sentences, compact_sentences, write_sentences, expand_sentences, rewrite_sentences, strings_sentences, reduce_sentences, forward_sentences, back_sentences, run_sentences, scan_sentences, walk_sentences, patch_sentences, apply_sentences, patched_scan_sentences}
use Rattle.paper.specs.Rewrite.{not_worth, rewritten}
use Rattle.paper.specs.Strings.{tabulated}
use Rattle.paper.specs.Reduce.{reduced}
use Rattle.paper.specs.Patch.{patch_grounds, applied, patched_scan_of}
use Rattle.paper.proofs.Tests.{holds_less, holds_not_below, holds_differ, holds_or, holds_some}
use Rattle.paper.proofs.Editions.{holds_not_one, holds_not_two}
use Rattle.paper.proofs.Returns.{holds_returns}
use Rattle.paper.proofs.Sentences.{Says, exact, says_append}
use Rattle.paper.proofs.TableSays.{table_says}
use Rattle.paper.proofs.ViewSays.{holds_default, inside_list}
use Rattle.paper.proofs.ImageSays.{image_says}
use Rattle.paper.proofs.Worth.{holds_not_worth}
use Rattle.paper.proofs.StringsSay.{strings_say}
use Rattle.paper.proofs.PatchSays.{patch_says}

-- Judging a table.
pub judge_table_exact : (t : List ℕ) (number : ℕ) → judge_table_of t ≡ number ↔ FirstOf (table_sentences t) number
unfolding judge_table_of
judge_table_exact t = exact (table_grounds t) (table_sentences t) (table_says t)

-- Judging an image.
pub judge_image_exact : (b : List ℕ) (number : ℕ) → judge_image_of b ≡ number ↔ FirstOf (image_sentences b) number
unfolding judge_image_of
judge_image_exact b = exact (image_grounds b) (image_sentences b) (image_says b)

-- Judging a patch.
pub judge_patch_exact : (b x : List ℕ) (number : ℕ) → judge_patch_of b x ≡ number ↔ FirstOf (patch_sentences b x) number
unfolding judge_patch_of
judge_patch_exact b x = exact (patch_grounds b x) (patch_sentences b x) (patch_says b x)

-- What builds answers the number of its grounds, and so does what scans.
number_building : (number : ℕ) (result room : List ℕ) → (building number result room).number ≡ number
number_building zero result room = refl
number_building (suc r) result room = refl

pub number_scanning : (number : ℕ) (r : Run) (room : List ℕ) → (scanning number r room).number ≡ number
number_scanning zero r room = refl
number_scanning (suc q) r room = refl

-- The number answered, through what answers it.
through : (gs : List Ground) (ss : List Sentence) (answer number : ℕ) → answer ≡ first gs → Says gs ss → answer ≡ number ↔ FirstOf ss number
through gs ss answer number e w =
    let x = exact gs ss w number in (λ q. x.0 (sym e ∙ q), λ f. e ∙ x.1 f)

compact_says : (t : List ℕ) (order D room : ℕ) → Says (compact_grounds t order D room) (compact_sentences t order D room)
unfolding compact_grounds compact_sentences
compact_says t order D room = (
  refl,
  holds_less 3 order,
  λ _. says_append (table_grounds t) _ (table_sentences t) _ (table_says t)
      (refl, holds_less room (length (compacted t order D)), λ _. tt),
)

-- Compact.
pub compact_exact : (t : List ℕ) (order D : ℕ) (room : List ℕ) (number : ℕ) → (compact t order D room).number ≡ number ↔ FirstOf (compact_sentences t order D (length room)) number
unfolding compact
compact_exact t order D room number =
    through (compact_grounds t order D (length room)) (compact_sentences t order D (length room)) _ number (number_building (first (compact_grounds t order D (length room))) (compacted t order D) room)
    (compact_says t order D (length room))

write_says : (t ds : List ℕ) (room : ℕ) → Says (write_grounds t ds room) (write_sentences t ds room)
unfolding write_grounds write_sentences
write_says t ds room =
    let n = states t in
    let v = table_view t (listed ds) in
    says_append (table_grounds t) _ (table_sentences t) _ (table_says t) (
      refl,
      holds_or (differ (length ds) (2 * n)) (any n (λ s. default_bad_of n (listed ds s))) (holds_differ (length ds) (2 * n))
          (holds_some n (λ s. default_bad_of n (listed ds s)) (λ s. DefaultWrong v (listed ds s)) (λ s hs. holds_default v (listed ds s))),
      λ not_8. (
        refl,
        holds_some n (endless v) (Returns v) (holds_returns v (inside_list v (λ w. not_8 (inr w)))),
        λ _. (
          refl,
          holds_some n (λ s. not_worth t s (listed ds s)) (λ s. NotWorth t s (listed ds s)) (λ s hs. holds_not_worth t s (listed ds s)),
          λ _. (refl, holds_less room (length (image_of t (listed ds))), λ _. tt),
        ),
      ),
    )

-- Write.
pub write_exact : (t ds room : List ℕ) (number : ℕ) → (write t ds room).number ≡ number ↔ FirstOf (write_sentences t ds (length room)) number
unfolding write
write_exact t ds room number =
    through (write_grounds t ds (length room)) (write_sentences t ds (length room)) _ number (number_building (first (write_grounds t ds (length room))) (image_of t (listed ds)) room)
    (write_says t ds (length room))

expand_says : (b : List ℕ) (room : ℕ) → Says (expand_grounds b room) (expand_sentences b room)
unfolding expand_grounds expand_sentences
expand_says b room =
    says_append (image_grounds b) _ (image_sentences b) _ (image_says b) (refl, holds_less room (length (table_of b)), λ _. tt)

-- Expand.
pub expand_exact : (b room : List ℕ) (number : ℕ) → (expand b room).number ≡ number ↔ FirstOf (expand_sentences b (length room)) number
unfolding expand
expand_exact b room number =
    through (expand_grounds b (length room)) (expand_sentences b (length room)) _ number (number_building (first (expand_grounds b (length room))) (table_of b) room)
    (expand_says b (length room))

forward_says : (b : List ℕ) (room : ℕ) → Says (forward_grounds b room) (forward_sentences b room)
unfolding forward_grounds forward_sentences
forward_says b room =
    says_append (image_grounds b) _ (image_sentences b) _ (image_says b)
    (refl, holds_not_one (image.edition b), λ _. (refl, holds_less room (length (moved two b)), λ _. tt))

-- Forward.
pub forward_exact : (b room : List ℕ) (number : ℕ) → (forward b room).number ≡ number ↔ FirstOf (forward_sentences b (length room)) number
unfolding forward
forward_exact b room number =
    through (forward_grounds b (length room)) (forward_sentences b (length room)) _ number (number_building (first (forward_grounds b (length room))) (moved two b) room)
    (forward_says b (length room))

back_says : (b : List ℕ) (room : ℕ) → Says (back_grounds b room) (back_sentences b room)
unfolding back_grounds back_sentences
back_says b room =
    let n = image.states b in
    says_append (image_grounds b) _ (image_sentences b) _ (image_says b) (
      refl,
      holds_not_two (image.edition b),
      λ _. (
        refl,
        holds_some n (λ s. ltb 1 (length (image.labels b s))) (λ s. 1 < length (image.labels b s)) (λ s hs. holds_less 1 (length (image.labels b s))),
        λ _. (refl, holds_less room (length (moved one b)), λ _. tt),
      ),
    )

-- Back.
pub back_exact : (b room : List ℕ) (number : ℕ) → (back b room).number ≡ number ↔ FirstOf (back_sentences b (length room)) number
unfolding back
back_exact b room number =
    through (back_grounds b (length room)) (back_sentences b (length room)) _ number (number_building (first (back_grounds b (length room))) (moved one b) room)
    (back_says b (length room))

rewrite_says : (b : List ℕ) (room : ℕ) → Says (rewrite_grounds b room) (rewrite_sentences b room)
unfolding rewrite_grounds rewrite_sentences
rewrite_says b room =
    says_append (image_grounds b) _ (image_sentences b) _ (image_says b) (refl, holds_less room (length (rewritten b)), λ _. tt)

-- Rewrite.
pub rewrite_exact : (b room : List ℕ) (number : ℕ) → (rewrite b room).number ≡ number ↔ FirstOf (rewrite_sentences b (length room)) number
unfolding rewrite
rewrite_exact b room number =
    through (rewrite_grounds b (length room)) (rewrite_sentences b (length room)) _ number (number_building (first (rewrite_grounds b (length room))) (rewritten b) room)
    (rewrite_says b (length room))

-- Strings.
pub strings_exact : (b room : List ℕ) (number : ℕ) → (strings b room).number ≡ number ↔ FirstOf (strings_sentences b (length room)) number
unfolding strings
strings_exact b room number =
    through (strings_grounds b (length room)) (strings_sentences b (length room)) _ number (number_building (first (strings_grounds b (length room))) (tabulated b) room)
    (strings_say b (length room))

reduce_says : (t : List ℕ) (room : ℕ) → Says (reduce_grounds t room) (reduce_sentences t room)
unfolding reduce_grounds reduce_sentences
reduce_says t room =
    says_append (table_grounds t) _ (table_sentences t) _ (table_says t) (refl, holds_less room (length (reduced t)), λ _. tt)

-- Reduce.
pub reduce_exact : (t room : List ℕ) (number : ℕ) → (reduce t room).number ≡ number ↔ FirstOf (reduce_sentences t (length room)) number
unfolding reduce
reduce_exact t room number =
    through (reduce_grounds t (length room)) (reduce_sentences t (length room)) _ number (number_building (first (reduce_grounds t (length room))) (reduced t) room)
    (reduce_says t (length room))

run_says : (n s : ℕ) (payload : List ℕ) → Says (run_grounds n s payload) (run_sentences n s payload)
run_says n s payload = (refl, holds_not_below s n, λ _. (refl, holds_less 65536 (length payload), λ _. tt))

scan_says : (b : List ℕ) (s : ℕ) (payload : List ℕ) → Says (scan_grounds b s payload) (scan_sentences b s payload)
unfolding scan_grounds scan_sentences
scan_says b s payload = says_append (image_grounds b) _ (image_sentences b) _ (image_says b) (run_says (image.states b) s payload)

-- Scan.
pub scan_exact : (b : List ℕ) (s : ℕ) (payload room : List ℕ) (number : ℕ) → (scan b s payload room).number ≡ number ↔ FirstOf (scan_sentences b s payload) number
unfolding scan
scan_exact b s payload room number =
    through (scan_grounds b s payload) (scan_sentences b s payload) _ number (number_scanning (first (scan_grounds b s payload)) (scan_of b s payload (length room)) room)
    (scan_says b s payload)

walk_says : (t : List ℕ) (s : ℕ) (payload : List ℕ) → Says (walk_grounds t s payload) (walk_sentences t s payload)
unfolding walk_grounds walk_sentences
walk_says t s payload = says_append (table_grounds t) _ (table_sentences t) _ (table_says t) (run_says (states t) s payload)

-- Walk.
pub walk_exact : (t : List ℕ) (s : ℕ) (payload room : List ℕ) (number : ℕ) → (walk t s payload room).number ≡ number ↔ FirstOf (walk_sentences t s payload) number
unfolding walk
walk_exact t s payload room number =
    through (walk_grounds t s payload) (walk_sentences t s payload) _ number (number_scanning (first (walk_grounds t s payload)) (walk_of t s payload (length room)) room)
    (walk_says t s payload)

apply_says : (b x : List ℕ) (room : ℕ) → Says (apply_grounds b x room) (apply_sentences b x room)
unfolding apply_grounds apply_sentences
apply_says b x room =
    says_append (patch_grounds b x) _ (patch_sentences b x) _ (patch_says b x) (refl, holds_less room (length (applied b x)), λ _. tt)

-- Apply.
pub apply_exact : (b x room : List ℕ) (number : ℕ) → (apply b x room).number ≡ number ↔ FirstOf (apply_sentences b x (length room)) number
unfolding apply
apply_exact b x room number =
    through (apply_grounds b x (length room)) (apply_sentences b x (length room)) _ number (number_building (first (apply_grounds b x (length room))) (applied b x) room)
    (apply_says b x (length room))

patched_scan_says : (b x : List ℕ) (s : ℕ) (payload : List ℕ) → Says (patched_scan_grounds b x s payload) (patched_scan_sentences b x s payload)
unfolding patched_scan_grounds patched_scan_sentences
patched_scan_says b x s payload = says_append (patch_grounds b x) _ (patch_sentences b x) _ (patch_says b x) (run_says (image.states b) s payload)

-- The patched scan.
pub patched_scan_exact : (b x : List ℕ) (s : ℕ) (payload room : List ℕ) (number : ℕ) → (patched_scan b x s payload room).number ≡ number ↔ FirstOf (patched_scan_sentences b x s payload) number
unfolding patched_scan
patched_scan_exact b x s payload room number =
    through (patched_scan_grounds b x s payload) (patched_scan_sentences b x s payload) _ number
    (number_scanning (first (patched_scan_grounds b x s payload)) (patched_scan_of b x s payload (length room)) room) (patched_scan_says b x s payload)
