-- Two scans whose look-ups find the same next states, with the same labels, are the same but for the hops.
use mathlib.Core.Path.{◌≡◌, refl, ap, ◌∙◌}
use mathlib.Core.Bool.{Bool, true, false, cond}
use mathlib.Core.List.{List, [], ◌∷◌}
use Prim.Native.Nat.{ℕ, zero, suc, ◌<◌}
use Rattle.paper.specs.Words.{Bytes}
use Rattle.paper.specs.Scan.{Run, begun}
use Rattle.paper.specs.Operations.{scanning, filled}
use Rattle.paper.specs.Promises.{SameWalk}
use Rattle.running.proofs.Bytewise.{next, fits}
use Rattle.running.specs.Rules.{Rules, found_on, going, run_of}

-- A scan without its hops.
abbrev pub bare : Run → Run
bare r = record { taken = r.taken; state = r.state; reports = r.reports; hops = 0; written = r.written }

-- From each state the same next state is found for each byte, and it is one of the states; each state has the same labels.
pub record Alike (R R' : Rules) : Type 0 where
  pub target_same : (s x : ℕ) → s < R.states → x < 256 → (found_on R s x).target ≡ (found_on R' s x).target
  pub target_below : (s x : ℕ) → s < R.states → x < 256 → (found_on R s x).target < R.states
  pub labels_same : (s : ℕ) → s < R.states → R.labels s ≡ R'.labels s

module _ (R R' : Rules) (A : Alike R R') (most : ℕ) where
  -- One byte more, in either.
  abbrev more : Run → ℕ → Run
  more = next R.look R.class_of R.labels

  abbrev more' : Run → ℕ → Run
  more' = next R'.look R'.class_of R'.labels

  module _ (x : ℕ) (r r' : Run) (e : bare r ≡ bare r') (hx : x < 256) (hs : r.state < R.states) where
    -- The next state, and its labels.
    target_is : (found_on R r.state x).target ≡ (found_on R' r'.state x).target
    target_is = A.target_same r.state x hs hx ∙ ap (λ (q : Run). (found_on R' q.state x).target) e

    labels_are : R.labels (found_on R r.state x).target ≡ R'.labels (found_on R' r'.state x).target
    labels_are = A.labels_same (found_on R r.state x).target (A.target_below r.state x hs hx) ∙ ap R'.labels target_is

    -- Their reports have room in both or in neither.
    fits_same : fits R.look R.class_of R.labels most r x ≡ fits R'.look R'.class_of R'.labels most r' x
    fits_same = rw (labels_are, ap (λ (q : Run). q.reports) e)

    more_same : bare (more r x) ≡ bare (more' r' x)
    more_same = rw (labels_are, target_is, ap (λ (q : Run). q.taken) e, ap (λ (q : Run). q.reports) e, ap (λ (q : Run). q.written) e)

  -- From where they are the same but for the hops they go on so.
  pub going_alike : (xs : List ℕ) → Bytes xs → (r r' : Run) → bare r ≡ bare r' → r.state < R.states → bare (going R most xs r) ≡ bare (going R' most xs r')
  going_alike [] B r r' e hs = e
  going_alike (x ∷ xs) B r r' e hs =
      ap (λ (o : Bool). bare (cond o (going R most xs (more r x)) r)) (fits_same x r r' e (B 0) hs)
      ∙ pick (fits R'.look R'.class_of R'.labels most r' x)
      (going_alike xs (λ i. B (suc i)) (more r x) (more' r' x) (more_same x r r' e (B 0) hs) (A.target_below r.state x hs (B 0)))
    where
      pick : (o : Bool) → bare (going R most xs (more r x)) ≡ bare (going R' most xs (more' r' x))
          → bare (cond o (going R most xs (more r x)) r) ≡ bare (cond o (going R' most xs (more' r' x)) r')
      pick true ih = ih
      pick false ih = e

-- So are the scans over a payload from a state.
pub runs_alike : (R R' : Rules) → Alike R R' → (s : ℕ) (payload : List ℕ) (room : ℕ) → Bytes payload → s < R.states → bare (run_of R s payload room) ≡ bare (run_of R' s payload room)
runs_alike R R' A s payload room P h = going_alike R R' A _ payload P (begun s) (begun s) refl h

-- With one number and one room the outcomes then agree in all but the hops; of a refusal the scans do not matter.
pub outcomes_alike : (v : ℕ) (r r' : Run) (room : List ℕ) → (v ≡ 0 → bare r ≡ bare r') → SameWalk (scanning v r room) (scanning v r' room)
outcomes_alike zero r r' room e =
    record {
      number_same = refl;
      taken_same = ap (λ (q : Run). q.taken) (e refl);
      state_same = ap (λ (q : Run). q.state) (e refl);
      reports_same = ap (λ (q : Run). q.reports) (e refl);
      room_same = ap (λ (q : Run). filled q.written room) (e refl);
    }
outcomes_alike (suc v) r r' room e = record { number_same = refl; taken_same = refl; state_same = refl; reports_same = refl; room_same = refl }
