-- What is known of the labels of an accepted table or image, where they begin at a place in an edition.
use Prim.Native.Nat.{ℕ, ◌+◌, ◌*◌, ◌≤◌, ◌<◌}
use mathlib.Core.List.{List}
use lib.ListN.{length}
use Rattle.paper.specs.Labels.{Edition, labels_from, labels_behind}
use Rattle.labels.specs.Tags.{Firsts}

pub record Stands (b : List ℕ) (at n : ℕ) (e : Edition) (firsts : List ℕ) : Type 0 where
  pub near : at ≤ 268
  pub few_states : n ≤ 512
  pub there : at + 2 * n + 2 * labels_behind b at n e ≤ length b
  pub few : (s : ℕ) → s < n → length (labels_from b at n e s) ≤ 16
  pub firsts_are : Firsts b at n e firsts
