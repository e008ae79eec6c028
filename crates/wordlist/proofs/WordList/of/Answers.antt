use Rattle.std.proofs.Common.{◌≡◌, true, not, length, length-set, refl, sym, ap, ◌∙◌, arith}
use borrow.Author.Tests.{eq-eqb, ne_eqb}
use Rattle.paper.specs.Below.{outside, differ}
use Rattle.paper.specs.Strings.{count, string_at, size, list_bad_of}
use Rattle.paper.proofs.Filled.{fill_more}
use Rattle.words.proofs.Lent.{fits_bytes}
use Rattle.strings.proofs.Shape.{shaped, size_bad, shape_count, shape_size, shape_short, shape_none}
use Rattle.strings.proofs.Strings.{size_read}
use Rattle.wordlist.proofs.Turns.{below_range, above_range, shape_turn, shape_finish}
use Rattle.wordlist.proofs.WordList.of.Goals as goal
use Rattle.wordlist.proofs.WordList.of.Goals.{After-loop-i, then-count-lt1-via-then-count-lt1, then-count-lt1-via-else-count-lt1+then-count-gt64, then-size-lt1-via-then-size-lt1, then-size-lt1-via-else-size-lt1+then-size-gt32}

pub returns-then-bytes-lt2 : goal.returns-then-bytes-lt2
returns-then-bytes-lt2 c = shape_none c.args.bytes.now c.if-bytes-lt2.true

pub returns-then-count-lt1 : goal.returns-then-count-lt1
returns-then-count-lt1 c =
    let b = c.args.bytes.now in
    let e = c.get16-count.ensures in
    let out : outside 1 64 (count b) ≡ true = elim c.then-count-lt1.branch [
      | then-count-lt1-via-then-count-lt1 w ↦ below_range 1 64 (count b) (omega arith)
      | then-count-lt1-via-else-count-lt1+then-count-gt64 w ↦ above_range 1 64 (count b) (omega arith)
    ] in
    shape_count b out

pub returns-then-bytes-at : goal.returns-then-bytes-at
returns-then-bytes-at c =
    shape_short c.args.bytes.now c.loop-i.i (omega arith) (omega arith)

pub returns-then-size-lt1 : goal.returns-then-size-lt1
returns-then-size-lt1 c =
    let b = c.args.bytes.now in
    let z = size_read b c.loop-i.i c.loop-i.at c.loop-i.invariant.place c.get16-size.result c.get16-size.ensures in
    let out : size_bad b c.loop-i.i ≡ true = elim c.then-size-lt1.branch [
      | then-size-lt1-via-then-size-lt1 w ↦ below_range 1 32 (size b c.loop-i.i) (omega arith)
      | then-size-lt1-via-else-size-lt1+then-size-gt32 w ↦ above_range 1 32 (size b c.loop-i.i) (omega arith)
    ] in
    shape_size b c.loop-i.i (omega arith) out

pub loop-i-preserved : goal.loop-i-preserved
loop-i-preserved c =
    let b = c.args.bytes.now in
    let (p, q) = shape_turn b c.loop-i.i c.loop-i.at c.loop-i.invariant.place c.get16-size.result c.get16-size.ensures c.if-size-lt1.false c.if-size-gt32.false c.loop-i.invariant.sized in
    record {
      place = p;
      near = omega arith;
      sized = q;
      room = length-set c.loop-i.starts c.loop-i.i c.loop-i.at ∙ c.loop-i.invariant.room;
      noted = fill_more (string_at b) c.loop-i.starts c.loop-i.i c.loop-i.at (omega arith) c.loop-i.invariant.place c.loop-i.invariant.noted;
    }

-- After the last string the end decides.
end : (c : After-loop-i) → differ c.loop-i.at (length c.args.bytes.now) ≡ list_bad_of c.args.bytes.now
end c =
    shape_finish c.args.bytes.now c.get16-count.result c.loop-i.at c.loop-i.i c.get16-count.ensures c.if-count-lt1.false c.if-count-gt64.false (omega arith) c.loop-i.invariant.place c.loop-i.invariant.sized

pub returns-then-at-bytes : goal.returns-then-at-bytes
returns-then-at-bytes c =
    sym (end (goal.at.returns-then-at-bytes c).After-loop-i) ∙ ap not (ne_eqb c.loop-i.at (length c.args.bytes.now) c.if-at-bytes.true)

pub invariant_of-result : goal.invariant_of-result
invariant_of-result c = record {
  begun = record {
    shape = shaped c.args.bytes.now (sym (end (goal.at.invariant_of-result c).After-loop-i) ∙ ap not (eq-eqb c.loop-i.at (length c.args.bytes.now) c.if-at-bytes.false));
    counted = c.get16-count.ensures;
    start_is = λ i h. c.loop-i.invariant.noted i (omega arith);
  };
  fits = fits_bytes c.args.bytes.now c.type_inv.bytes;
}

pub returns : goal.returns
returns c =
    (sym (end (goal.at.returns c).After-loop-i) ∙ ap not (eq-eqb c.loop-i.at (length c.args.bytes.now) c.if-at-bytes.false), refl)
