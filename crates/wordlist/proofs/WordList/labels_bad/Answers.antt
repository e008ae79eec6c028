use Rattle.std.proofs.Common.{◌≡◌, ℕ, true, sym, ap, ◌∙◌, arith}
use Rattle.paper.specs.Below.{any}
use Rattle.paper.specs.Strings.{count}
use Rattle.paper.proofs.Below.{any_more, any_found}
use Rattle.wordlist.proofs.Turns.{label_bad, labels_all, label_zero, label-twice, label_good}
use Rattle.wordlist.proofs.WordList.labels_bad.Goals as goal
use Rattle.wordlist.proofs.WordList.labels_bad.Goals.{then-label-eq0-via-then-label-eq0, then-label-eq0-via-else-label-eq0+then-label_before}

pub returns-then-label-eq0 : goal.returns-then-label-eq0
returns-then-label-eq0 c =
    let list = c.args.self.now in
    let b = list.bytes.now in
    let bad : label_bad b c.loop-i.i ≡ true = elim c.then-label-eq0.branch [
      | then-label-eq0-via-then-label-eq0 w ↦ label_zero b c.loop-i.i c.label-label.result c.label-label.ensures w.if-label-eq0.true
      | then-label-eq0-via-else-label-eq0+then-label_before w ↦ label-twice b c.loop-i.i c.label-label.result c.label-label.ensures (sym w.label_before.ensures ∙ w.if-label_before.true)
    ] in
    sym (any_found (count b) c.loop-i.i (label_bad b) (omega (arith, list.begun.counted)) bad) ∙ labels_all b

pub loop-i-preserved : goal.loop-i-preserved
loop-i-preserved c =
    let b = c.args.self.now.bytes.now in
    any_more c.loop-i.i (label_bad b) c.loop-i.invariant (label_good b c.loop-i.i c.label-label.result c.label-label.ensures c.if-label-eq0.false (sym c.label_before.ensures ∙ c.if-label_before.false))

pub returns : goal.returns
returns c =
    let list = c.args.self.now in
    let b = list.bytes.now in
    let e : c.loop-i.i ≡ count b = omega (arith, list.begun.counted) in
    sym c.loop-i.invariant ∙ ap (λ (x : ℕ). any x (label_bad b)) e ∙ labels_all b
