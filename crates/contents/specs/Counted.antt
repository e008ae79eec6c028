-- An image and its counts.
use Rattle.std.specs.Prelude.{◌≡◌, List, ℕ, ◌+◌, ◌*◌, ◌≤◌, length}
use Rattle.paper.specs.Image.{states, entries, behind, records_at_of, image_length_of}

-- The image b has n states and m entries, both in range, few labels, and the length that these give.
pub record Counted (b : List ℕ) (n m : ℕ) : Type 0 where
  pub states_are : n ≡ states b
  pub entries_are : m ≡ entries b
  pub few_states : n ≤ 512
  pub few_entries : m ≤ 131072
  pub few_labels : behind b ≤ 8192
  pub long : length b ≡ image_length_of n m (behind b)

-- The n records of the image b stand in it, one after the other from a place on.
pub record Records (b : List ℕ) (n records : ℕ) : Type 0 where
  pub states_are : n ≡ states b
  pub few_states : n ≤ 512
  pub begin : records ≡ records_at_of b
  pub inside : records + 4 * n ≤ length b
