-- The path from u to the root r turned round, one state at a time: the walk comes from u and lets each state point back.
use mathlib.Core.Path.{◌≡◌, refl, sym, ◌∙◌, ap}
use mathlib.Core.List.{List}
use mathlib.Core.Logic.{◌⊎◌, inl, inr}
use Prim.Native.Nat.{ℕ, ◌+◌, ◌≤◌, ◌<◌}
use native.Mathlib.Omega.{arith}
use native.Mathlib.Decide.{ℕ_discrete}
use lib.ListN.{length, get_or, set}
use lib.Seq.{get_or-set_other}
use Rattle.paper.specs.Forest.{Trees}
use Rattle.paper.proofs.Join.{Mates}
use Rattle.trees.proofs.Metric.{Metric, Nearer}
use Rattle.joining.specs.Rooted.{Rooted}
use Rattle.joining.proofs.Filled.{get_d_set}
use Rattle.joining.proofs.OnPath.{OnPath, on_path_one}

-- As the parent of x, p leads to u: x is u and its own parent, or p is one step nearer to u.
abbrev pub Towards : Trees → ℕ → ℕ → ℕ → Type 0
Towards F u x p = ((x ≡ u) × (p ≡ u)) ⊎ (¬ (x ≡ u) × Nearer F x u p)

-- The walk stands k steps from u at a state of the path and comes from `back`: the states passed lead to u, all others have their old parents.
pub record Turning (F : Trees) (old new : List ℕ) (u r back at k : ℕ) : Type 0 where
  pub mate : Mates F u at
  pub left : k + F.distance at r ≡ F.distance u r
  pub gone : F.distance u at ≡ k
  pub from : Towards F u at back
  pub passed : (x : ℕ) → Mates F u x → OnPath F u r x → F.distance u x < k → Towards F u x (get_or new x 0)
  pub kept : (x : ℕ) → (Mates F u x → OnPath F u r x → k ≤ F.distance u x) → get_or new x 0 ≡ get_or old x 0

module _ (F : Trees) (M : Metric F) (old : List ℕ) (u r : ℕ) (ur : Mates F u r) (R : Rooted F old r) where
  -- At the start nothing is turned.
  pub turning_starts : Turning F old old u r u u 0
  turning_starts =
      record {
        mate = refl;
        left = omega arith;
        gone = M.self u;
        from = inl (refl, refl);
        passed = λ x m o l. absurd (omega arith);
        kept = λ x h. refl;
      }

  module _ (new : List ℕ) (back at k : ℕ) (T : Turning F old new u r back at k) (long : at < length new) where
    -- The state where the walk stands is on the path.
    on : OnPath F u r at
    on = omega (arith, T.left, T.gone)

    -- With that state turned too, all states passed lead to u.
    passed_more : (x : ℕ) → Mates F u x → OnPath F u r x → F.distance u x < k + 1 → Towards F u x (get_or (set new at back) x 0)
    passed_more x m o l =
        get_d_set (Towards F u x) new at x back long (λ e. rw e T.from)
        (λ ne. T.passed x m o (elim (ℕ_discrete (F.distance u x) k) [
          | yes e ↦ absurd (ne (on_path_one F M u r ur x at m T.mate o on (e ∙ sym T.gone)))
          | no e ↦ omega arith
        ]))

    -- All others have their old parents.
    kept_more : (x : ℕ) → (Mates F u x → OnPath F u r x → k + 1 ≤ F.distance u x) → get_or (set new at back) x 0 ≡ get_or old x 0
    kept_more x h =
        get_or-set_other new at x back 0
        (λ e. absurd (omega (arith, T.gone, ap (F.distance u) e, h (T.mate ∙ ap F.tree (sym e)) (rw e on))))
        ∙ T.kept x (λ m o. omega (arith, h m o))

    -- The parent read there is the old one.
    old_there : get_or new at 0 ≡ get_or old at 0
    old_there = T.kept at (λ m o. omega (arith, T.gone))

    -- A state that is its own parent is the root.
    pub turning_top : get_or new at 0 ≡ at → at ≡ r
    turning_top e =
        elim (ℕ_discrete at r) [
          | yes h ↦ h
          | no ne ↦ absurd (omega (arith, (R.up at (sym ur ∙ T.mate) ne).less, ap (λ (x : ℕ). F.distance x r) (sym old_there ∙ e)))
        ]

    -- From any other the walk goes on to its old parent.
    pub turning_goes : ¬ (get_or new at 0 ≡ at) → Turning F old (set new at back) u r at (get_or new at 0) (k + 1)
    turning_goes ne =
        let next : ℕ = get_or new at 0 in
        let other : ¬ (at ≡ r) = λ e. ne (old_there ∙ ap (λ (x : ℕ). get_or old x 0) e ∙ R.own ∙ sym e) in
        let N : Nearer F at r next = rw old_there (R.up at (sym ur ∙ T.mate) other) in
        let mate : Mates F u next = T.mate ∙ N.mate in
        let far : F.distance u next ≡ k + 1 =
        omega (arith, T.gone, T.left, N.step, N.less, M.tri u at next T.mate mate, M.tri u next r mate ur) in
        let step : Nearer F next u at =
        record {
          mate = sym N.mate;
          step = M.flip next at (sym N.mate) ∙ N.step;
          less = omega (arith, T.gone, far, M.flip at u (sym T.mate), M.flip next u (sym mate));
        } in
        record {
          mate = mate;
          left = omega (arith, T.left, N.less);
          gone = far;
          from = inr (λ e. omega (arith, far, M.self u, ap (F.distance u) e), step);
          passed = passed_more;
          kept = kept_more;
        }

    -- A state of another tree keeps its parent.
    pub turning_keeps : (x : ℕ) → ¬ Mates F u x → get_or (set new at back) x 0 ≡ get_or old x 0
    turning_keeps x n = kept_more x (λ m. absurd (n m))

    -- A state off the path has the same nearer neighbour for u as for r.
    off_path : (x : ℕ) → Mates F u x → ¬ OnPath F u r x → Nearer F x u (get_or old x 0)
    off_path x m off =
        let xr : Mates F x r = sym m ∙ ur in
        let other : ¬ (x ≡ r) = λ e. off (omega (arith, M.self r, ap (λ (y : ℕ). F.distance y r) e, ap (F.distance u) e)) in
        let N : Nearer F x r (get_or old x 0) = R.up x (sym xr) other in
        let p : ℕ = get_or old x 0 in
        let hp = N.mate in
        elim (M.edge x p u hp (sym m) N.step) [
          | inl s ↦ absurd (off (omega (
            arith,
            N.less,
            M.cut x p u r hp (sym m) xr N.step s (omega (arith, N.less, M.flip r p (sym xr ∙ hp), M.flip r x (sym xr))),
          )))
          | inr s ↦ record { mate = hp; step = N.step; less = omega (arith, s, M.flip u p (m ∙ hp), M.flip u x m) }
        ]

    -- With the root turned too the parents lead to u.
    pub turning_ends : at ≡ r → Rooted F (set new at back) u
    turning_ends e =
        let top : F.distance u r ≡ k = omega (arith, T.left, M.self r, ap (λ (x : ℕ). F.distance x r) e) in
        record {
          own = elim (passed_more u refl (omega (arith, M.self u)) (omega (arith, M.self u))) [
            | inl t ↦ t.1
            | inr t ↦ absurd (t.0 refl)
          ];
          up = λ x m ne. elim (ℕ_discrete (F.distance u x + F.distance x r) (F.distance u r)) [
            | yes o ↦ elim (passed_more x m o (omega arith)) [ inl t ↦ absurd (ne t.0) | inr t ↦ t.1 ]
            | no off ↦ rw (kept_more x (λ m o. absurd (off o))) (off_path x m off)
          ];
        }
