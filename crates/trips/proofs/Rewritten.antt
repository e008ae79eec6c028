-- An accepted image without its defaults not worth their hops: it is accepted, stands for the same table, has no such default left, and no look-up in it takes more hops.
use mathlib.Core.Path.{◌≡◌, refl, sym, ap, ap₂, ◌∙◌}
use mathlib.Core.Option.{Option}
use mathlib.Core.List.{List}
use Prim.Native.Nat.{ℕ, ◌≤◌, ◌<◌}
use native.Mathlib.Omega.{arith}
use Rattle.paper.specs.Words.{Bytes}
use Rattle.paper.specs.View.{look}
use Rattle.paper.specs.Image as image
use Rattle.paper.specs.Image.{image_view}
use Rattle.paper.specs.Results.{table_view, image_of, table_of}
use Rattle.paper.specs.Rewrite.{not_worth, kept, rewritten, AllWorth}
use Rattle.paper.specs.Operations.{judge_image_of}
use Rattle.paper.proofs.Worth.{kept_either, kept_worth, kept_is_worth}
use Rattle.paper.proofs.Look.{hops_of}
use Rattle.facts.proofs.ImageFacts.{AcceptedImage, accepted_image}
use Rattle.trips.proofs.Agree.{find_same}
use Rattle.trips.proofs.Writable.{Writable}
use Rattle.trips.proofs.ImageOf.{reads, image_of_edition, image_of_accepted, defaults_of_image, table_of_image}
use Rattle.trips.proofs.TableOf.{table_reads, table_of_edition, table_of_writable, views_agree, image_of_defaults}
use Rattle.trips.proofs.ResultBytes.{image_of_bytes, table_of_bytes}
use Rattle.trips.proofs.Dropped.{dropped_writable, dropped_hops}

module _ (b : List ℕ) (B : Bytes b) (e : judge_image_of b ≡ 0) where
  -- The image's table.
  abbrev t : List ℕ
  t = table_of b

  -- The defaults that stay.
  abbrev stay : ℕ → Option ℕ
  stay s = kept t s (image.default b s)

  -- Its table can be written with the image's defaults.
  before : Writable t (image.default b)
  before = table_of_writable b B e (image.default b) (λ s h. refl)

  -- So it can with those that stay.
  pub rewritten_writable : Writable (table_of b) (λ s. kept (table_of b) s (image.default b s))
  rewritten_writable = dropped_writable t (image.default b) stay (λ s. kept_either t s (image.default b s)) before

  -- The rewritten image is accepted.
  pub rewritten_accepted : judge_image_of (rewritten b) ≡ 0
  unfolding rewritten
  rewritten_accepted = image_of_accepted t stay (table_of_bytes b B) rewritten_writable

  -- It is of bytes.
  pub rewritten_bytes : Bytes (rewritten b)
  unfolding rewritten
  rewritten_bytes = image_of_bytes t stay (table_of_bytes b B)

  -- It keeps the image's edition.
  pub rewritten-edition : image.edition (rewritten b) ≡ image.edition b
  unfolding rewritten
  rewritten-edition = image_of_edition t stay (table_of_bytes b B) rewritten_writable ∙ table_of_edition b B e

  -- It stands for the same table.
  pub rewritten_table : table_of (rewritten b) ≡ table_of b
  unfolding rewritten
  rewritten_table = table_of_image t stay (table_of_bytes b B) rewritten_writable

  -- It has as many states.
  pub rewritten-states : image.states (rewritten b) ≡ image.states b
  unfolding rewritten
  rewritten-states = sym (reads t stay (table_of_bytes b B) rewritten_writable).view_is.states_same ∙ (table_reads b B e).states_is

  -- Its defaults are those that stay.
  pub rewritten-defaults : (s : ℕ) → s < image.states b → image.default (rewritten b) s ≡ kept (table_of b) s (image.default b s)
  unfolding rewritten
  rewritten-defaults s hs = defaults_of_image t stay (table_of_bytes b B) rewritten_writable s (omega (arith, (table_reads b B e).states_is))

  -- They are all worth their hops.
  pub rewritten_worth : AllWorth (rewritten b)
  rewritten_worth s hs =
      let hb : s < image.states b = omega (arith, rewritten-states) in
      ap₂ (λ (x : List ℕ) (o : Option ℕ). not_worth x s o) rewritten_table (rewritten-defaults s hb) ∙ kept_is_worth t s (image.default b s)

  -- An image of which that is true already comes back byte for byte.
  pub rewritten_same : AllWorth b → rewritten b ≡ b
  unfolding rewritten
  rewritten_same worth = image_of_defaults b B e stay (λ s hs. kept_worth t s (image.default b s) (worth s hs))

  -- No state and byte cost more hops.
  pub rewritten_hops : (s x : ℕ) → s < image.states b → x < 256
      → (look (image_view (rewritten b)) s (image.class_of (rewritten b) x)).hops ≤ (look (image_view b) s (image.class_of b x)).hops
  unfolding rewritten
  rewritten_hops s x hs hx =
      let A : AcceptedImage b = accepted_image b e in
      let W = rewritten_writable in
      let R = table_reads b B e in
      let N = R.states_is in
      let I = reads t stay (table_of_bytes b B) W in
      let c = image.class_of b x in
      let same : image.class_of (image_of t stay) x ≡ c = I.class_is x hx ∙ R.class_is x hx in
      let old = ap hops_of (find_same (table_view t (image.default b)) (image_view b) (views_agree b B e (image.default b) (λ r h. refl)) before.inside s c (omega arith)) in
      let new = ap hops_of (find_same (table_view t stay) (image_view (image_of t stay)) I.view_is W.inside s c (omega arith)) in
      omega (
        arith,
        old,
        new,
        ap (λ (d : ℕ). (look (image_view (image_of t stay)) s d).hops) same,
        dropped_hops t (image.default b) stay (λ s. kept_either t s (image.default b s)) before s c (omega arith) (omega (arith, R.classes_is, A.all_classed.below x hx)),
      )
