-- The demands on reduce, over what it answers and leaves. Every notion in a statement stands in the definitions, crates/paper/specs.
use mathlib.Core.Path.{◌≡◌, sym, subst}
use mathlib.Core.List.{List}
use Prim.Native.Nat.{ℕ, ◌≤◌, ◌<◌}
use lib.ListN.{length}
use Rattle.paper.specs.Words.{Bytes}
use Rattle.paper.specs.Table.{edition, states, classes, start, class_of, labels}
use Rattle.paper.specs.Told.{SameReports}
use Rattle.paper.specs.Operations.{judge_table_of, result, reduce, walk}
use Rattle.facts.proofs.TableFacts.{accepted_table, table_accepted}
use Rattle.reduction.proofs.Claims as claims
use Rattle.reduction.proofs.ReducedTable as reduced
use Rattle.reduction.proofs.Leaves.{reduce_leaves, walks_tell}

-- What reduce leaves is an accepted table of the same edition, with the same classes and no more states.
pub reduced_accepted : (t room : List ℕ) → Bytes t → (reduce t room).number ≡ 0
    → let u = result (reduce t room) in
    (judge_table_of u ≡ 0) × Bytes u × (edition u ≡ edition t) × (classes u ≡ classes t) × ((x : ℕ) → x < 256 → class_of u x ≡ class_of t x) × (states u ≤ states t)
reduced_accepted t room B e =
    let (judged, is) = reduce_leaves t room e in
    let A = accepted_table t judged in
    let R = reduced.reduced-reads t B A in
    subst (λ (u : List ℕ). (judge_table_of u ≡ 0) × Bytes u × (edition u ≡ edition t) × (classes u ≡ classes t) × ((x : ℕ) → x < 256 → class_of u x ≡ class_of t x) × (states u ≤ states t)) (sym is)
    (table_accepted _ (reduced.reduced-right t B A), reduced.reduced_bytes t B, R.edition_is, R.classes_is, R.class_is, reduced.reduced_fewer t B A)

-- Its start state has the labels of the table's start state, and from it the reports are the same for every payload: with every room a walk of it and a walk of the table answer the same number, the same bytes taken and
-- the same reports, and leave the same bytes in the room.
pub reduced_same : (t room : List ℕ) → Bytes t → (reduce t room).number ≡ 0
    → let u = result (reduce t room) in
    (labels u (start u) ≡ labels t (start t))
    × ((payload reports : List ℕ) → Bytes payload
    → ((walk u (start u) payload reports).number ≡ (walk t (start t) payload reports).number) × ((walk u (start u) payload reports).taken ≡ (walk t (start t) payload reports).taken)
    × ((walk u (start u) payload reports).reports ≡ (walk t (start t) payload reports).reports) × ((walk u (start u) payload reports).room ≡ (walk t (start t) payload reports).room))
    × SameReports u (start u) t (start t)
reduced_same t room B e =
    let (judged, is) = reduce_leaves t room e in
    let A = accepted_table t judged in
    let A' = reduced.reduced-right t B A in
    subst (λ (u : List ℕ). (labels u (start u) ≡ labels t (start t))
    × ((payload reports : List ℕ) → Bytes payload
    → ((walk u (start u) payload reports).number ≡ (walk t (start t) payload reports).number) × ((walk u (start u) payload reports).taken ≡ (walk t (start t) payload reports).taken)
    × ((walk u (start u) payload reports).reports ≡ (walk t (start t) payload reports).reports) × ((walk u (start u) payload reports).room ≡ (walk t (start t) payload reports).room))
    × SameReports u (start u) t (start t)) (sym is) (
      claims.same_start t B A,
      λ payload reports P. walks_tell _ t _ (start t) payload reports A' A A'.begins A.begins (claims.same_told t B A payload (length reports) P),
      λ payload P l. (claims.same_told t B A payload _ P).written_same,
    )

-- No two of its states have equal labels and equal reports for all payloads.
pub reduced_apart : (t room : List ℕ) → Bytes t → (reduce t room).number ≡ 0
    → let u = result (reduce t room) in
    (p q : ℕ) → p < states u → q < states u → labels u p ≡ labels u q → SameReports u p u q → p ≡ q
reduced_apart t room B e =
    let (judged, is) = reduce_leaves t room e in
    subst (λ (u : List ℕ). (p q : ℕ) → p < states u → q < states u → labels u p ≡ labels u q → SameReports u p u q → p ≡ q) (sym is) (claims.left_told t B (accepted_table t judged))

-- No accepted table with the same classes, the same labels at its start and the same reports from it has fewer states.
pub reduced-smallest : (t v room : List ℕ) → Bytes t → Bytes v → (reduce t room).number ≡ 0 → judge_table_of v ≡ 0
    → classes v ≡ classes t → ((x : ℕ) → x < 256 → class_of v x ≡ class_of t x) → labels v (start v) ≡ labels t (start t) → SameReports v (start v) t (start t)
    → states (result (reduce t room)) ≤ states v
reduced-smallest t v room B B' e e' k c same reports =
    let (judged, is) = reduce_leaves t room e in
    subst (λ (u : List ℕ). states u ≤ states v) (sym is) (claims.left_least t B (accepted_table t judged) v B' (accepted_table v e') k c same reports)
