-- A refusal on the first grounds is the image's; where there is none the image has passed them, and the others decide.
use Rattle.std.proofs.Common.{◌≡◌, List, ℕ, sym, ap, ◌∙◌, arith}
use Rattle.std.proofs.lemmas.Result.{err_from_is_err_and}
use Rattle.paper.specs.Refusals.{first}
use Rattle.paper.specs.Labels.{edition_of, states_in_word}
use Rattle.paper.specs.Image.{states, classes, entries}
use Rattle.answers.proofs.Told.{not_zero}
use Rattle.image.specs.Grounds.{first_grounds_of}
use Rattle.image.specs.Passed.{Passed}
use Rattle.image.proofs.Passed.{passed_all}
use Rattle.image.proofs.Split.{judged_first, judged_later}
use Rattle.judge.proofs.judged.Goals as goal
use Rattle.judge.proofs.judged.Goals.{In_ok-first_grounds}

-- The image.
abbrev bytes : In_ok-first_grounds → List ℕ
bytes c = c.args.bytes.now

-- None of the first twelve grounds applies.
none_first : (c : In_ok-first_grounds) → first (first_grounds_of (bytes c)) ≡ 0
none_first c = sym c.in_ok-first_grounds.ensures

-- So it has passed them.
passed : (c : In_ok-first_grounds) → Passed (bytes c) (states (bytes c)) (classes (bytes c)) (entries (bytes c))
passed c = passed_all (bytes c) (none_first c)

pub returns-in_err-first_grounds-clause-number : goal.returns-in_err-first_grounds-clause-number
returns-in_err-first_grounds-clause-number c =
    let p = err_from_is_err_and c.from_residual.result c.from_residual.ensures.1 in
    rw (p.1, p.2) (judged_first _ _ c.in_err-first_grounds.ensures (not_zero _))

pub get16-word-requires : goal.get16-word-requires
get16-word-requires c = omega (arith, (passed (goal.at.get16-word-requires c).In_ok-first_grounds).laid.long)

pub get16-k-requires : goal.get16-k-requires
get16-k-requires c = omega (arith, (passed (goal.at.get16-k-requires c).In_ok-first_grounds).laid.long)

pub get32-m-requires : goal.get32-m-requires
get32-m-requires c = omega (arith, (passed (goal.at.get32-m-requires c).In_ok-first_grounds).laid.long)

pub last_grounds-requires : goal.last_grounds-requires
last_grounds-requires c = rw (c.states_of-n.ensures, c.get16-word.ensures, c.get16-k.ensures, c.get32-m.ensures) (passed (goal.at.last_grounds-requires c).In_ok-first_grounds)

pub returns-in_err-last_grounds-clause-number : goal.returns-in_err-last_grounds-clause-number
returns-in_err-last_grounds-clause-number c =
    let p = err_from_is_err_and c.from_residual-in_err-last_grounds.result c.from_residual-in_err-last_grounds.ensures.1 in
    rw (p.1, p.2) (c.in_err-last_grounds.ensures ∙ sym (judged_later (c.args.bytes.now) (none_first (goal.at.returns-in_err-last_grounds-clause-number c).In_ok-first_grounds)))

pub invariant_of-result : goal.invariant_of-result
invariant_of-result c =
    record {
      accepted = judged_later (c.args.bytes.now) (none_first (goal.at.invariant_of-result c).In_ok-first_grounds) ∙ sym c.in_ok-last_grounds.ensures;
      of_edition = c.of.ensures ∙ ap edition_of c.get16-word.ensures;
      states_are = c.states_of-n.ensures ∙ ap states_in_word c.get16-word.ensures;
      classes_are = c.get16-k.ensures;
      entries_are = c.get32-m.ensures;
    }
