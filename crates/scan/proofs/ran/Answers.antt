-- The image is refused, or 14 or 15 applies, or an accepted image is scanned in its edition.
use mathlib.Core.Path.{◌≡◌, ap, ◌∙◌}
use Prim.Native.Nat.{ℕ}
use Rattle.std.proofs.lemmas.Result.{err_from_is_err_and}
use Rattle.paper.specs.Image.{states}
use Rattle.paper.specs.Scan.{scan_of}
use Rattle.paper.specs.Operations.{scanning, scan}
use Rattle.running.proofs.Verdict.{later}
use Rattle.scan.proofs.Verdict.{scan_refused, scan_refused_later, scan_ran}
use Rattle.scan.proofs.ran.Goals as goal
use Rattle.scan.proofs.ran.Goals.{In_ok-allowed, In_ok-image}
use lib.ListN.{length}

-- n is the image's.
states_are : (c : In_ok-image) → c.in_ok-image.image.n ≡ states c.args.image.now
states_are c = c.in_ok-image.image.states_are ∙ ap states c.in_ok-image.ensures.same

-- Neither 14 nor 15 applies.
done : (c : In_ok-allowed) → let t = c.args in scan t.image.now t.state t.payload.now t.room.now ≡ scanning 0 (scan_of t.image.now t.state t.payload.now (length t.room.now)) t.room.now
done c =
    let t = c.args in
    scan_ran t.image.now t.state t.payload.now t.room.now c.in_ok-image.ensures.number (c.in_ok-allowed.ensures ∙ ap (λ (n : ℕ). later n t.state t.payload.now) (states_are (goal.at.In_ok-allowed c).In_ok-image))

pub returns-in_err-image : goal.returns-in_err-image
returns-in_err-image c =
    let p = err_from_is_err_and c.from_residual.result c.from_residual.ensures.1 in
    let t = c.args in
    rw (p.1, p.2) (scan_refused t.image.now t.state t.payload.now t.room.now c.in_err-image.field-0.0 c.in_err-image.ensures.number)

pub returns-in_err-allowed : goal.returns-in_err-allowed
returns-in_err-allowed c =
    let p = err_from_is_err_and c.from_residual-in_err-allowed.result c.from_residual-in_err-allowed.ensures.1 in
    let t = c.args in
    rw (p.1, p.2)
    (scan_refused_later t.image.now t.state t.payload.now t.room.now c.in_err-allowed.field-0.0 c.in_ok-image.ensures.number
    (c.in_err-allowed.ensures ∙ ap (λ (n : ℕ). later n t.state t.payload.now) (states_are (goal.at.returns-in_err-allowed c).In_ok-image)))

pub returns-in-One : goal.returns-in-One
returns-in-One c = rw (done (goal.at.returns-in-One c).In_ok-allowed) (rw c.in_ok-image.ensures.same at c.scan_judged.ensures)

pub returns-in-Two : goal.returns-in-Two
returns-in-Two c = rw (done (goal.at.returns-in-Two c).In_ok-allowed) (rw c.in_ok-image.ensures.same at c.scan_judged-in-Two.ensures)
