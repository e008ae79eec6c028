-- What rewrite leaves: an accepted image that stands for the same table and has no default not worth its hops; its scans go as those of the image did, and none costs more hops.
use mathlib.Core.Path.{◌≡◌, sym, ap, subst, ◌∙◌}
use mathlib.Core.List.{List}
use Prim.Native.Nat.{ℕ, ◌≤◌, ◌<◌}
use native.Mathlib.Decide.{ℕ_discrete}
use native.Mathlib.Omega.{arith}
use Rattle.paper.specs.Words.{Bytes}
use Rattle.paper.specs.Table.{next}
use Rattle.paper.specs.View.{look}
use Rattle.paper.specs.Image as image
use Rattle.paper.specs.Image.{image_view}
use Rattle.paper.specs.Results.{table_of}
use Rattle.paper.specs.Rewrite.{kept, rewritten, AllWorth}
use Rattle.paper.specs.Walk.{next_on}
use Rattle.paper.specs.Operations.{judge_image_of, result, rewrite, Scanned, walk, scan}
use Rattle.paper.specs.Promises.{SameWalk}
use Rattle.paper.proofs.Refused.{scan_refused}
use Rattle.facts.proofs.ImageFacts.{accepted_image}
use Rattle.trips.proofs.Rewritten as trips
use Rattle.trips.proofs.WorthBuilt.{rewrite_leaves}
use Rattle.scan.proofs.OneByte.{goes}
use Rattle.scan.proofs.Fewer.{scan_fewer}
use Rattle.demands.proofs.Scanned.{table_says, accepted_walks}

-- Two outcomes that agree with a third in all but the hops agree with each other.
walks_through : {o p q : Scanned} → SameWalk o p → SameWalk o q → SameWalk q p
walks_through a b =
    record {
      number_same = sym b.number_same ∙ a.number_same;
      taken_same = sym b.taken_same ∙ a.taken_same;
      state_same = sym b.state_same ∙ a.state_same;
      reports_same = sym b.reports_same ∙ a.reports_same;
      room_same = sym b.room_same ∙ a.room_same;
    }

-- A byte leads where the image's table says.
goes_on : (b : List ℕ) (B : Bytes b) (e : judge_image_of b ≡ 0) (s x : ℕ) → s < image.states b → x < 256 → goes b s x ≡ next_on (table_of b) s x
goes_on b B e s x hs hx =
    let S = table_says b B e in
    S.next_same s (image.class_of b x) hs ((accepted_image b e).all_classed.below x hx) ∙ ap (next (table_of b) s) (S.class_same x hx)

module _ (b room : List ℕ) (B : Bytes b) (e : (rewrite b room).number ≡ 0) where
  -- What it leaves.
  abbrev left : List ℕ
  left = result (rewrite b room)

  -- The image is accepted, and what is left is its rewriting.
  judged : judge_image_of b ≡ 0
  judged = (rewrite_leaves b room e).0

  left_is : left ≡ rewritten b
  left_is = (rewrite_leaves b room e).1

  -- What holds of the rewritten image holds of what is left.
  of_left : (P : List ℕ → Type 0) → P (rewritten b) → P left
  of_left P h = subst P (sym left_is) h

  -- It is accepted.
  pub left_accepted : judge_image_of (result (rewrite b room)) ≡ 0
  left_accepted = of_left (λ r. judge_image_of r ≡ 0) (trips.rewritten_accepted b B judged)

  pub left_bytes : Bytes (result (rewrite b room))
  left_bytes = of_left Bytes (trips.rewritten_bytes b B judged)

  -- It keeps the edition.
  pub left-edition : image.edition (result (rewrite b room)) ≡ image.edition b
  left-edition = of_left (λ r. image.edition r ≡ image.edition b) (trips.rewritten-edition b B judged)

  -- It stands for the same table.
  pub left_table : table_of (result (rewrite b room)) ≡ table_of b
  left_table = of_left (λ r. table_of r ≡ table_of b) (trips.rewritten_table b B judged)

  -- Its defaults are those that stay, all worth their hops.
  pub left-defaults : (s : ℕ) → s < image.states b → image.default (result (rewrite b room)) s ≡ kept (table_of b) s (image.default b s)
  left-defaults = of_left (λ r. (s : ℕ) → s < image.states b → image.default r s ≡ kept (table_of b) s (image.default b s)) (trips.rewritten-defaults b B judged)

  pub left_worth : AllWorth (result (rewrite b room))
  left_worth = of_left AllWorth (trips.rewritten_worth b B judged)

  -- An image of which that is true already comes back byte for byte.
  pub left_same : AllWorth b → result (rewrite b room) ≡ b
  left_same worth = left_is ∙ trips.rewritten_same b B judged worth

  -- No state and byte cost more hops.
  pub left_hops : (s x : ℕ) → s < image.states b → x < 256
      → (look (image_view (result (rewrite b room))) s (image.class_of (result (rewrite b room)) x)).hops ≤ (look (image_view b) s (image.class_of b x)).hops
  left_hops =
      of_left (λ r. (s x : ℕ) → s < image.states b → x < 256 → (look (image_view r) s (image.class_of r x)).hops ≤ (look (image_view b) s (image.class_of b x)).hops)
      (trips.rewritten_hops b B judged)

  -- Its scans answer and leave what those of the image do, but for the hops.
  pub left_scans : (s : ℕ) (payload reports : List ℕ) → Bytes payload → SameWalk (scan (result (rewrite b room)) s payload reports) (scan b s payload reports)
  left_scans s payload reports P =
      walks_through (accepted_walks b B judged s payload reports P)
      (subst (λ (t : List ℕ). SameWalk (walk t s payload reports) (scan left s payload reports)) left_table (accepted_walks left left_bytes left_accepted s payload reports P))

  -- None of them costs more hops.
  pub left-scan_hops : (s : ℕ) (payload reports : List ℕ) → Bytes payload → (scan (result (rewrite b room)) s payload reports).hops ≤ (scan b s payload reports).hops
  left-scan_hops s payload reports P = go (ℕ_discrete (scan b s payload reports).number 0)
    where
      same : SameWalk (scan left s payload reports) (scan b s payload reports)
      same = left_scans s payload reports P

      states_same : image.states left ≡ image.states b
      states_same = of_left (λ r. image.states r ≡ image.states b) (trips.rewritten-states b B judged)

      goes_same : (q x : ℕ) → q < image.states b → x < 256 → goes left q x ≡ goes b q x
      goes_same q x hq hx =
          goes_on left left_bytes left_accepted q x (omega (arith, states_same)) hx ∙ ap (λ (t : List ℕ). next_on t q x) left_table ∙ sym (goes_on b B judged q x hq hx)

      go : Dec ((scan b s payload reports).number ≡ 0) → (scan left s payload reports).hops ≤ (scan b s payload reports).hops
      go (yes z) = scan_fewer b left (accepted_image b judged) goes_same left_hops s payload reports P z (same.number_same ∙ z) same.taken_same
      go (no z) = omega (arith, (scan_refused left s payload reports (λ w. z (sym same.number_same ∙ w))).3)
