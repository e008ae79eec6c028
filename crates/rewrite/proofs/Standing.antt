-- The table that an accepted image stands for: it is accepted, has the image's counts, and goes where the image's chains go.
use mathlib.Core.Path.{◌≡◌, refl, sym, ◌∙◌}
use mathlib.Core.List.{List}
use mathlib.Core.Option.{some}
use Prim.Native.Nat.{ℕ, ◌+◌, ◌<◌}
use native.Mathlib.Omega.{arith}
use Rattle.paper.specs.Words.{Bytes}
use Rattle.paper.specs.Table as table
use Rattle.paper.specs.View.{look}
use Rattle.paper.specs.Image.{edition, states, classes, start, class_of, labels, behind, entries, default, count, image_view}
use Rattle.paper.specs.Results.{table_view, table_of}
use Rattle.paper.specs.Operations.{judge_image_of}
use Rattle.paper.proofs.Labels.{behind_same}
use Rattle.facts.proofs.TableFacts.{AcceptedTable, accepted_table}
use Rattle.facts.proofs.ImageFacts.{AcceptedImage, image_accepted}
use Rattle.trees.proofs.StateEntries.{stored-shared}
use Rattle.trips.proofs.Stored.{goes}
use Rattle.trips.proofs.Agree.{Agree}
use Rattle.trips.proofs.TableBytes.{TableReads}
use Rattle.trips.proofs.TableOf as trips
use Rattle.image.specs.Passed.{Passed}
use Rattle.image.proofs.Passed.{accepted_passed}

module _ (b : List ℕ) (B : Bytes b) (A : AcceptedImage b) where
  -- The table.
  abbrev t : List ℕ
  t = table_of b

  -- The image is judged 0.
  pub judged : judge_image_of b ≡ 0
  judged = image_accepted b A

  -- Of its table are read its own numbers.
  pub table_reads : TableReads (edition b) (states b) (classes b) (start b) (class_of b) (labels b) (goes (image_view b)) (table_of b)
  table_reads = trips.table_reads b B judged

  -- The table is accepted.
  pub table_right : AcceptedTable (table_of b)
  table_right = accepted_table t (trips.table_of_accepted b B judged)

  -- It has as many labels behind their counts.
  pub held_same : table.behind (table_of b) ≡ behind b
  unfolding labels table.labels
  held_same = let R = table_reads in behind_same t 262 (table.states t) (states b) (table.edition t) (edition b) (labels b) R.states_is R.edition_is R.labels_are ∙ sym (behind_same b 268 (states b) (states b) (edition b) (edition b) (labels b) refl refl (λ s hs. refl))

  -- It goes where the chains go.
  pub next_goes : (s c : ℕ) → s < states b → c < classes b → table.next (table_of b) s c ≡ (look (image_view b) s c).target
  next_goes = table_reads.next_is

  -- With the image's defaults the table's view is the image's.
  pub views_agree : Agree (table_view (table_of b) (default b)) (image_view b)
  views_agree = trips.views_agree b B judged (default b) (λ s h. refl)

  -- What a state stores and what it shares with its default make k.
  pub count-shared : (s d : ℕ) → s < states b → default b s ≡ some d → count b s + table.shared (table_of b) s d ≡ classes b
  count-shared s d hs e =
      let R = table_reads in
      omega (arith, views_agree.count_same s (omega (arith, R.states_is)), stored-shared t (default b) s d e, R.classes_is)

-- An accepted image has passed the first grounds, with its counts under any names.
pub passed_as : (b : List ℕ) → AcceptedImage b → (n m : ℕ) → n ≡ states b → m ≡ entries b → Passed b n (classes b) m
passed_as b A n m e q = rw (e, q) (accepted_passed b A)
