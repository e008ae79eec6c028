use Rattle.std.proofs.Common.{◌≡◌, ℕ, ◌+◌, ◌-◌, ◌*◌, ap, inl, inr, refl, arith}
use Rattle.paper.specs.Words.{check_word_of}
use Rattle.words.proofs.Sum.{summed_none, summed_more, summed_all}
use Rattle.words.proofs.Lent.{fits_bytes}
use Rattle.words.proofs.check_word.Goals as goal
use Rattle.words.proofs.check_word.Goals.{then-total-word, else-total-word}

pub loop-i-init : goal.loop-i-init
loop-i-init c = let b = c.args.b.now in summed_none b (fits_bytes b c.type_inv.b)

pub loop-i-preserved : goal.loop-i-preserved
loop-i-preserved c =
    let l = c.loop-i in
    let next : 2 * (l.i + 1) ≡ 2 * l.i + 2 = omega arith in
    elim c.if-total-word.branch [
      | then-total-word w ↦ rw next
          (summed_more _ (2 * l.i) l.sum c.get16-word.result _ _ (omega arith) c.get16-word.ensures (omega arith) l.invariant refl (inl (w.if-total-word.true, w.sum-is)))
      | else-total-word w ↦ rw next
          (summed_more _ (2 * l.i) l.sum c.get16-word.result _ _ (omega arith) c.get16-word.ensures (omega arith) l.invariant refl (inr (w.if-total-word.false, w.sum-is)))
    ]

pub returns : goal.returns
unfolding check_word_of
returns c = ap (λ (x : ℕ). 65535 - x) (summed_all _ (2 * c.loop-i.i) _ (omega arith) c.loop-i.invariant)
