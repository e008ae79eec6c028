-- The number and the answers of what runs a payload: the judge's grounds first, then 14, then 15.
use mathlib.Core.Path.{◌≡◌, refl, sym, ap, ◌∙◌}
use mathlib.Core.Bool.{Bool, true, false, cond}
use mathlib.Core.List.{List, ◌++◌}
use Prim.Native.Nat.{ℕ, zero, suc, ◌≤◌, ◌<◌}
use native.Mathlib.Omega.{arith}
use lib.Dec.{ltb, leb}
use lib.ListN.{length}
use borrow.Author.Tests.{lt-leb, le-ltb, leb-false, ltb-false}
use Rattle.paper.specs.Refusals.{Ground, first}
use Rattle.paper.specs.Scan.{Run}
use Rattle.paper.specs.Operations.{run_grounds, Scanned, scanning}
use Rattle.paper.specs.Promises.{IsScanned}
use Rattle.answers.specs.Numbers.{number_of}
use Rattle.answers.specs.declared.Refusal.{Refusal}
use Rattle.answers.proofs.Told.{not_zero}
use Rattle.paper.proofs.Exact.{number_scanning}
use Rattle.paper.proofs.Refusals.{numbered, past, first_append}

-- A refusal answers its number and zeros, and leaves the room.
refusing : (v : ℕ) (r : Run) (room : List ℕ) → ¬ (v ≡ 0) → IsScanned (scanning v r room) v 0 0 0 0 room
refusing zero r room n = absurd (n refl)
refusing (suc v) r room n = record { number_is = refl; taken_is = refl; state_is = refl; reports_is = refl; hops_is = refl; room_is = refl }

-- A refusal comes before what later grounds give.
past_refused : (v l : ℕ) → ¬ (v ≡ 0) → past v l ≡ v
past_refused zero l n = absurd (n refl)
past_refused (suc v) l n = refl

module _ (n s : ℕ) (payload : List ℕ) where
  -- What the grounds 14 and 15 give.
  abbrev pub later : ℕ
  later = first (run_grounds n s payload)

  -- Neither of them applies where the state is below n and the payload is not over 65,536 bytes.
  pub later_none : s < n → length payload ≤ 65536 → later ≡ 0
  later_none h l = rw (lt-leb n s h, le-ltb 65536 (length payload) l)

  -- They give 0 only so.
  pub later_clear : later ≡ 0 → (s < n) × (length payload ≤ 65536)
  later_clear e = passed (leb n s) refl (ltb 65536 (length payload)) refl e
    where
      passed : (p : Bool) → leb n s ≡ p → (q : Bool) → ltb 65536 (length payload) ≡ q → ◌≡◌ {A = ℕ} (cond p 14 (cond q 15 0)) 0 → (s < n) × (length payload ≤ 65536)
      passed false ep false eq z = (leb-false n s ep, ltb-false 65536 (length payload) eq)
      passed false ep true eq z = absurd (omega arith)
      passed true ep q eq z = absurd (omega arith)

module _ (gs : List Ground) (ok : numbered gs ≡ true) (n s : ℕ) (payload : List ℕ) where
  -- The verdict is the judge's, or what they give.
  verdict_past : first (gs ++ run_grounds n s payload) ≡ past (first gs) (later n s payload)
  verdict_past = first_append gs (run_grounds n s payload) ok

  -- Where the judge accepts it is what they give.
  pub verdict_judged : first gs ≡ 0 → first (gs ++ run_grounds n s payload) ≡ later n s payload
  verdict_judged e = verdict_past ∙ rw e

  -- It is 0 only where the judge accepts, the state is below n and the payload is not too long.
  pub verdict_clear : first (gs ++ run_grounds n s payload) ≡ 0 → (first gs ≡ 0) × (s < n) × (length payload ≤ 65536)
  verdict_clear e = passed (first gs) (sym verdict_past ∙ e)
    where
      passed : (v : ℕ) → past v (later n s payload) ≡ 0 → (v ≡ 0) × (s < n) × (length payload ≤ 65536)
      passed zero z = let (i, j) = later_clear n s payload z in (refl, i, j)
      passed (suc v) z = absurd (omega arith)

  module _ (r : Run) (room : List ℕ) where
    -- What is answered and left.
    abbrev outcome : Scanned
    outcome = scanning (first (gs ++ run_grounds n s payload)) r room

    -- A refusal of the judge is the verdict.
    pub refused_first : (e : Refusal) → number_of e ≡ first gs → IsScanned outcome (number_of e) 0 0 0 0 room
    refused_first e q =
        let v : first (gs ++ run_grounds n s payload) ≡ number_of e = verdict_past ∙ ap (λ (v : ℕ). past v (later n s payload)) (sym q) ∙ past_refused (number_of e) _ (not_zero e) in
        rw v (refusing (number_of e) r room (not_zero e))

    -- Where the judge accepts, that of 14 or 15 is.
    pub refused_later : (e : Refusal) → 0 ≡ first gs → number_of e ≡ later n s payload → IsScanned outcome (number_of e) 0 0 0 0 room
    refused_later e z q =
        let v : first (gs ++ run_grounds n s payload) ≡ number_of e = verdict_judged (sym z) ∙ sym q in
        rw v (refusing (number_of e) r room (not_zero e))

    -- No ground applies: the scan's four numbers are answered, and its reports left in the room.
    pub outcome_done : first (gs ++ run_grounds n s payload) ≡ 0 → outcome ≡ scanning 0 r room
    outcome_done none = ap (λ (v : ℕ). scanning v r room) none

    -- What is known where 0 is answered: the judge accepts, the state is below n, the payload is not too long, and the numbers and the room are the scan's.
    pub outcome_accepts : outcome.number ≡ 0 → (first gs ≡ 0) × (s < n) × (length payload ≤ 65536) × (outcome ≡ scanning 0 r room)
    outcome_accepts e =
        let none = sym (number_scanning (first (gs ++ run_grounds n s payload)) r room) ∙ e in
        let (i, j, k) = verdict_clear none in
        (i, j, k, outcome_done none)

    -- The judge accepts, and neither 14 nor 15 applies.
    pub outcome_ran : 0 ≡ first gs → 0 ≡ later n s payload → outcome ≡ scanning 0 r room
    outcome_ran z q = outcome_done (verdict_judged (sym z) ∙ sym q)
