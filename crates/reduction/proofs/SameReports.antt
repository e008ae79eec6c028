-- Equal reports for all payloads of so many bytes are equal ends of all words of so many classes.
use mathlib.Core.Path.{◌≡◌, sym, ap, ◌∙◌}
use mathlib.Core.List.{List, [], ◌∷◌, ◌++◌, append-nil, append_cancel_left}
use Prim.Native.Nat.{ℕ, zero, suc, ◌+◌, ◌*◌, ◌/◌, ◌≤◌, ◌<◌}
use native.Mathlib.Omega.{arith}
use lib.ListN.{length}
use Rattle.paper.specs.Words.{Bytes}
use Rattle.paper.specs.Table.{states, classes, class_of, labels, next}
use Rattle.paper.specs.Scan.{begun, report_bytes, walk_of}
use Rattle.paper.specs.Told.{whole_walk, SameReports}
use Rattle.paper.specs.Sentences.{Some}
use Rattle.paper.specs.Walk.{next_on, state_after}
use Rattle.reduction.proofs.Words.{SameEnds}
use Rattle.reduction.proofs.Reports.{Scans, told, run_told, reports_labels}

-- A walk with room for every report writes all of them.
pub whole_told : (t : List ℕ) (s : ℕ) (payload : List ℕ) → Scans t → s < states t → Bytes payload → (whole_walk t s payload).written ≡ told t 0 s payload
unfolding walk_of
whole_told t s payload S h B = run_told t S (6 * (16 * length payload) / 6) payload (begun s) B h (omega arith)

-- No byte is nothing's.
bytes_none : Bytes []
bytes_none i = omega arith

-- A byte before bytes.
pub bytes_cons : (x : ℕ) (xs : List ℕ) → x < 256 → Bytes xs → Bytes (x ∷ xs)
bytes_cons x xs h B zero = h
bytes_cons x xs h B (suc i) = B i

-- Two tables with the same classes.
module _ (t u : List ℕ) (S : Scans t) (R : Scans u) (same : (x : ℕ) → x < 256 → class_of u x ≡ class_of t x) where
  -- Payloads of at most so many bytes have equal reports.
  abbrev AllTold : ℕ → ℕ → ℕ → ℕ → Type 0
  AllTold offset i s r = (payload : List ℕ) → Bytes payload → length payload ≤ i → told t offset s payload ≡ told u offset r payload

  -- One byte tells the labels to which it leads.
  first_told : (offset i s r x : ℕ) → s < states t → r < states u → x < 256 → AllTold offset (suc i) s r → labels t (next_on t s x) ≡ labels u (next_on u r x)
  first_told offset i s r x hs hr hx e =
      reports_labels offset (labels t (next_on t s x)) (labels u (next_on u r x))
      (S.small (next_on t s x) (S.inside s (class_of t x) hs (S.classed x hx)))
      (R.small (next_on u r x) (R.inside r (class_of u x) hr (R.classed x hx)))
      (sym (append-nil (report_bytes offset (labels t (next_on t s x)))) ∙ e (x ∷ []) (bytes_cons x [] hx bytes_none) (omega arith) ∙ append-nil (report_bytes offset (labels u (next_on u r x))))

  -- And what follows the byte is told alike.
  rest_told : (offset i s r x : ℕ) → s < states t → r < states u → x < 256 → AllTold offset (suc i) s r → AllTold (offset + 1) i (next_on t s x) (next_on u r x)
  rest_told offset i s r x hs hr hx e payload B l =
      append_cancel_left (report_bytes offset (labels t (next_on t s x))) (told t (offset + 1) (next_on t s x) payload) (told u (offset + 1) (next_on u r x) payload)
      (e (x ∷ payload) (bytes_cons x payload hx B) (omega arith)
      ∙ ap (λ (ls : List ℕ). report_bytes offset ls ++ told u (offset + 1) (next_on u r x) payload) (sym (first_told offset i s r x hs hr hx e)))

  module _ (used : (c : ℕ) → c < classes t → Some 256 (λ x. class_of t x ≡ c)) where
    -- So words of as many classes end in equal labels.
    told_ends : (i offset s r : ℕ) → s < states t → r < states u → labels t s ≡ labels u r → AllTold offset i s r
        → SameEnds (classes t) (next t) (next u) (labels t) (labels u) i s r
    told_ends i offset s r hs hr q e [] l a = q
    told_ends zero offset s r hs hr q e (c ∷ w) l a = absurd (omega arith)
    told_ends (suc i) offset s r hs hr q e (c ∷ w) l (h, a) =
        let (x, hx, z) = used c h in
        let f = first_told offset i s r x hs hr hx e in
        let g = rest_told offset i s r x hs hr hx e in
        let z' : class_of u x ≡ c = same x hx ∙ z in
        let ends = told_ends i (offset + 1) (next_on t s x) (next_on u r x) (S.inside s (class_of t x) hs (S.classed x hx)) (R.inside r (class_of u x) hr (R.classed x hx)) f g w (omega arith) a in
        ap (λ (d : ℕ). labels t (state_after (next t) (next t s d) w)) (sym z) ∙ ends ∙ ap (λ (d : ℕ). labels u (state_after (next u) (next u r d) w)) z'

    -- Two states with equal labels and equal reports for every payload that a walk takes: words of up to 65,536 classes end in equal labels.
    pub reports_ends : (s r : ℕ) → s < states t → r < states u → labels t s ≡ labels u r → SameReports t s u r
        → SameEnds (classes t) (next t) (next u) (labels t) (labels u) 65536 s r
    reports_ends s r hs hr q e =
        told_ends 65536 0 s r hs hr q (λ payload B l. sym (whole_told t s payload S hs B) ∙ e payload B l ∙ whole_told u r payload R hr B)
