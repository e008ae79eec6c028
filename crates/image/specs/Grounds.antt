-- The grounds of an image in two parts: those of its form, 1 to 10 with the two that are 19, and those that follow its chains of defaults, 11 to 13.
use Rattle.std.specs.Prelude.{List, ℕ, take, drop}
use Rattle.paper.specs.Refusals.{Ground}
use Rattle.paper.specs.Image.{image_grounds}

-- The first twelve grounds of an image, in the order of their tests.
unfoldable pub first_grounds_of : List ℕ → List Ground
first_grounds_of b = take 12 (image_grounds b)

-- The grounds behind them.
unfoldable pub later_grounds : List ℕ → List Ground
later_grounds b = drop 12 (image_grounds b)
