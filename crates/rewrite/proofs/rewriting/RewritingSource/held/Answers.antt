use Rattle.std.proofs.Common.{List, ℕ, length, ap, sym, ◌∙◌, arith}
use Rattle.rewrite.proofs.Setting.{image_accepted}
use Rattle.rewrite.proofs.Standing.{held_same}
use Rattle.rewrite.proofs.rewriting.RewritingSource.held.Goals as goal

pub behind-requires : goal.behind-requires
behind-requires c =
    let A = image_accepted c.args.self.now.image in
    let L = c.labels-labels.ensures in
    (omega (arith, L.2, A.few_states), omega (arith, ap (λ (b : List ℕ). length b) L.0, L.1, L.2, A.long))

pub returns : goal.returns
returns c =
    let r = c.args.self.now in
    let L = c.labels-labels.ensures in
    c.behind.ensures.0 ∙ rw (L.0, L.1, L.2, L.3) (sym (held_same r.image.bytes.now r.readable (image_accepted r.image)))
