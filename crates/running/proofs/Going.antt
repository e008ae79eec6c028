-- The scan at the head of its loop: what is left of the payload, scanned from the running scan, gives what the whole payload gives.
use mathlib.Core.Path.{◌≡◌, refl, sym, ap, subst, ◌∙◌}
use mathlib.Core.List.{List, []}
use Prim.Native.Nat.{ℕ, ◌*◌, ◌/◌, ◌≤◌, ◌<◌}
use native.Mathlib.Omega.{arith}
use lib.ListN.{length, drop, drop_of_length-le}
use Rattle.paper.specs.Scan.{Run, begun}
use Rattle.paper.specs.Operations.{filled, scanning}
use Rattle.paper.specs.Promises.{IsScanned}
use Rattle.words.specs.Placed.{placed}
use Rattle.words.proofs.Placed.{placed_nothing, placed-front, length-placed}
use Rattle.running.specs.Rules.{Rules, going, run_of}

-- The running scan: the state, the reports and the hops after i bytes, and the bytes of the reports.
abbrev pub at : ℕ → ℕ → ℕ → ℕ → List ℕ → Run
at s reports hops i written = record { taken = i; state = s; reports = reports; hops = hops; written = written }

-- What holds at the head of the loop.
pub record Going (R : Rules) (most state : ℕ) (payload room₀ room : List ℕ) (s reports hops i : ℕ) : Type 0 where
  pub written : List ℕ
  pub within : i ≤ length payload
  pub inside : s < R.states
  pub cheap : hops ≤ 512 * i
  pub few : reports ≤ 16 * i
  pub fits : reports ≤ most
  pub long : length written ≡ 6 * reports
  pub room_is : room ≡ placed room₀ 0 written
  pub same : going R most payload (begun state) ≡ going R most (drop i payload) (at s reports hops i written)

-- So it is where the scan begins.
pub going_start : (R : Rules) (most state : ℕ) (payload room : List ℕ) → state < R.states → Going R most state payload room room state 0 0 0
going_start R most state payload room h =
    record {
      written = [];
      within = omega arith;
      inside = h;
      cheap = omega arith;
      few = omega arith;
      fits = omega arith;
      long = refl;
      room_is = sym (placed_nothing room 0);
      same = refl;
    }

module _ {R : Rules} {most state : ℕ} {payload room₀ room : List ℕ} {s reports hops i : ℕ} (g : Going R most state payload room₀ room s reports hops i) where
  -- The room keeps its length.
  pub going_length : 6 * most ≤ length room₀ → length room ≡ length room₀
  going_length h = ap length g.room_is ∙ length-placed room₀ 0 g.written (omega (arith, g.long, g.fits))

  -- At the payload's end the scan is done.
  pub going_done : length payload ≤ i → going R most payload (begun state) ≡ at s reports hops i g.written
  going_done h = g.same ∙ ap (λ (xs : List ℕ). going R most xs (at s reports hops i g.written)) (drop_of_length-le payload h)

-- The loop's end as the promise has it.
pub going_answers : {R : Rules} {state : ℕ} {payload room₀ room : List ℕ} {s reports hops i : ℕ} (g : Going R (length room₀ / 6) state payload room₀ room s reports hops i)
    → going R (length room₀ / 6) payload (begun state) ≡ at s reports hops i g.written
    → IsScanned (scanning 0 (run_of R state payload (length room₀)) room₀) 0 i s reports hops room
going_answers {room₀} g e =
    record {
      number_is = refl;
      taken_is = ap (λ (q : Run). q.taken) (sym e);
      state_is = ap (λ (q : Run). q.state) (sym e);
      reports_is = ap (λ (q : Run). q.reports) (sym e);
      hops_is = ap (λ (q : Run). q.hops) (sym e);
      room_is = g.room_is ∙ placed-front room₀ g.written ∙ ap (λ (q : Run). filled q.written room₀) (sym e);
    }

-- At the payload's end.
pub going_ended : {R : Rules} {state : ℕ} {payload room₀ room : List ℕ} {s reports hops i : ℕ} (g : Going R (length room₀ / 6) state payload room₀ room s reports hops i) → length payload ≤ i
    → IsScanned (scanning 0 (run_of R state payload (length room₀)) room₀) 0 (length payload) s reports hops room
going_ended {R} {state} {payload} {room₀} {room} {s} {reports} {hops} g h =
    let P : ℕ → Type 0 = λ n. IsScanned (scanning 0 (run_of R state payload (length room₀)) room₀) 0 n s reports hops room in
    subst P (omega (arith, g.within)) (going_answers g (going_done g h))
