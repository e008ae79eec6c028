-- The pieces of an image that is moved, as they are taken from the image.
use Rattle.std.specs.Prelude.{List, ◌++◌, ℕ, ◌+◌, ◌*◌, take, drop}
use Rattle.paper.specs.Words.{bytes16, words, check_word_of}
use Rattle.paper.specs.Image.{worst}
use Rattle.paper.specs.Results.{trailer}
use Rattle.words.specs.Placed.{placed}

-- The first word, and behind it what stands up to the labels.
unfoldable pub head : List ℕ → ℕ → List ℕ
head b word = bytes16 word ++ take 266 (drop 2 b)

-- The records and entries of n states with m entries, which begin at a place.
unfoldable pub rows : List ℕ → ℕ → ℕ → ℕ → List ℕ
rows b n m from = take (4 * n + 4 * m) (drop from b)

-- A room in which so many labels are held, after the records and entries, the trailer and the check word are put behind them.
unfoldable pub finished : List ℕ → ℕ → ℕ → ℕ → ℕ → List ℕ → List ℕ
finished b n m from held room =
    let at = 268 + 2 * n + 2 * held in
    let end = at + (4 * n + 4 * m) + 10 in
    let before = placed room at (rows b n m from ++ trailer n m held (worst b)) in
    placed before end (bytes16 (check_word_of (words (take end before))))
