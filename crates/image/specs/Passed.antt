-- What is known of an image to which none of the first twelve grounds applies.
use Rattle.std.specs.Prelude.{◌≡◌, List, ℕ, suc, ◌*◌, ◌≤◌, ◌<◌}
use Rattle.std.proofs.Math.Option.{none}
use Rattle.paper.specs.Image.{states, classes, entries, class_of, default, count, image_view}
use Rattle.paper.proofs.Chain.{Inside}
use Rattle.facts.proofs.TableFacts.{Classed}
use Rattle.image.specs.Laid.{Laid}

-- An image of n states, k classes and m entries has passed the grounds 1 to 10 and 19.
pub record Passed (b : List ℕ) (n k m : ℕ) : Type 0 where
  pub states_are : n ≡ states b
  pub classes_are : k ≡ classes b
  pub entries_are : m ≡ entries b
  pub some_states : 1 ≤ n
  pub few_states : n ≤ 512
  pub some_classes : 1 ≤ k
  pub few_classes : k ≤ 256
  pub enough : k ≤ m
  pub not_many : m ≤ n * k
  -- The length is the one that the counts give, and the counts of the records sum to m.
  pub laid : Laid b
  -- Each byte has a class below k, and each class below k has a byte.
  pub all_classed : Classed 256 k (class_of b)
  -- Each default is below n.
  pub inside : Inside (image_view b)
  -- A state without a default counts k entries, and none counts more.
  pub full : (s : ℕ) → s < n → default b s ≡ none → count b s ≡ k
  pub few : (s : ℕ) → s < n → count b s ≤ k
  -- The classes of a state's entries are below k and rise.
  pub class_below : (s j : ℕ) → s < n → j < count b s → (image_view b).entry_class s j < k
  pub rises : (s j : ℕ) → s < n → suc j < count b s → (image_view b).entry_class s j < (image_view b).entry_class s (suc j)
  -- Their next states are below n.
  pub next_below : (s j : ℕ) → s < n → j < count b s → (image_view b).entry_next s j < n
