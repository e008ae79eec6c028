-- A loader of the first edition, which takes the whole first word for n, refuses an image of edition 2 with 2.
use mathlib.Core.Path.{◌≡◌}
use mathlib.Core.Bool.{or-true}
use mathlib.Core.List.{List, ◌++◌}
use Prim.Native.Nat.{ℕ, ◌≤◌}
use native.Mathlib.Omega.{arith}
use lib.ListN.{length}
use borrow.Author.Tests.{lt-ltb, le-ltb}
use Rattle.paper.specs.Words.{number16}
use Rattle.paper.specs.Refusals.{Ground, first}
use Rattle.paper.specs.Labels.{two}
use Rattle.paper.specs.Image.{edition, first_loader_grounds}
use Rattle.paper.specs.Operations.{judge_image_of}
use Rattle.paper.proofs.Editions.{second_large}
use Rattle.facts.proofs.ImageFacts.{accepted_image}

-- So does it with any input of at least 24 bytes, whatever it tests afterwards.
second_refused : (b : List ℕ) (others : List Ground) → 24 ≤ length b → edition b ≡ two → first (first_loader_grounds b ++ others) ≡ 2
unfolding first_loader_grounds
second_refused b others h e = rw (le-ltb (length b) 24 h, lt-ltb 512 (number16 b 0) (omega (arith, second_large (number16 b 0) e)), or-true)

-- An accepted image of edition 2 is refused with 2 by any judge that begins with these grounds.
pub first_edition_refuses : (b : List ℕ) (others : List Ground) → judge_image_of b ≡ 0 → edition b ≡ two → first (first_loader_grounds b ++ others) ≡ 2
first_edition_refuses b others e q = second_refused b others (omega (arith, (accepted_image b e).long)) q
