-- A row that has fallen, by the cells that were put.
use mathlib.Core.Path.{◌≡◌, ◌∙◌}
use mathlib.Core.List.{List}
use Prim.Native.Nat.{ℕ, ◌+◌}
use lib.ListN.{length, get_or}
use Rattle.words.proofs.Put.{Put}
use Rattle.abreast.specs.Rows.{Fell}

-- Two cells read and then put elsewhere, the second list's one larger: the row has fallen.
pub put_fell : (to hop to' hop' : List ℕ) (from at : ℕ) → length to ≡ 1026 → length hop ≡ 1026
    → Put to to' at (λ q. get_or to (from + q) 0) 2 → Put hop hop' at (λ q. get_or hop (from + q) 0 + 1) 2 → Fell to hop from at to' hop'
put_fell to hop to' hop' from at lt lh T H =
    record { to_long = T.long ∙ lt; hop_long = H.long ∙ lh; to_fell = T.put; hop_fell = H.put; to_elsewhere = T.kept; hop_elsewhere = H.kept }
