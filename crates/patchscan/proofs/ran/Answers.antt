-- The image or the patch is refused, or 14 or 15 applies, or an image with a patch that it takes is scanned in its edition.
use mathlib.Core.Path.{◌≡◌, ap, ◌∙◌}
use Prim.Native.Nat.{ℕ}
use lib.ListN.{length}
use Rattle.std.proofs.lemmas.Result.{err_from_is_err_and}
use Rattle.paper.specs.Image.{states}
use Rattle.paper.specs.Patch.{patched_scan_of}
use Rattle.paper.specs.Operations.{scanning, patched_scan}
use Rattle.running.proofs.Verdict.{later}
use Rattle.patchscan.proofs.Verdict.{patched_refused, patched_refused_later, patched_ran}
use Rattle.patchscan.proofs.ran.Goals as goal
use Rattle.patchscan.proofs.ran.Goals.{In_ok-allowed, In_ok-both}

-- n is the image's.
states_are : (c : In_ok-both) → c.in_ok-both.both.image.n ≡ states c.args.image.now
states_are c = c.in_ok-both.both.image.states_are ∙ ap states c.in_ok-both.ensures.same.0

-- Neither 14 nor 15 applies.
done : (c : In_ok-allowed)
    → let t = c.args in
    patched_scan t.image.now t.x.now t.state t.payload.now t.room.now
    ≡ scanning 0 (patched_scan_of t.image.now t.x.now t.state t.payload.now (length t.room.now)) t.room.now
done c =
    let t = c.args in
    patched_ran t.image.now t.x.now t.state t.payload.now t.room.now c.in_ok-both.ensures.number
    (c.in_ok-allowed.ensures ∙ ap (λ (n : ℕ). later n t.state t.payload.now) (states_are (goal.at.In_ok-allowed c).In_ok-both))

pub returns-in_err-both : goal.returns-in_err-both
returns-in_err-both c =
    let p = err_from_is_err_and c.from_residual.result c.from_residual.ensures.1 in
    let t = c.args in
    rw (p.1, p.2) (patched_refused t.image.now t.x.now t.state t.payload.now t.room.now c.in_err-both.field-0.0 c.in_err-both.ensures.number)

pub returns-in_err-allowed : goal.returns-in_err-allowed
returns-in_err-allowed c =
    let p = err_from_is_err_and c.from_residual-in_err-allowed.result c.from_residual-in_err-allowed.ensures.1 in
    let t = c.args in
    rw (p.1, p.2)
    (patched_refused_later t.image.now t.x.now t.state t.payload.now t.room.now c.in_err-allowed.field-0.0 c.in_ok-both.ensures.number
    (c.in_err-allowed.ensures ∙ ap (λ (n : ℕ). later n t.state t.payload.now) (states_are (goal.at.returns-in_err-allowed c).In_ok-both)))

pub returns-in-One : goal.returns-in-One
returns-in-One c =
    rw (done (goal.at.returns-in-One c).In_ok-allowed) (rw (c.in_ok-both.ensures.same.0, c.in_ok-both.ensures.same.1) at c.scan_judged.ensures)

pub returns-in-Two : goal.returns-in-Two
returns-in-Two c =
    rw (done (goal.at.returns-in-Two c).In_ok-allowed) (rw (c.in_ok-both.ensures.same.0, c.in_ok-both.ensures.same.1) at c.scan_judged-in-Two.ensures)
