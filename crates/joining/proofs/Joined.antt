-- The arrays renewed hold the trees joined.
use mathlib.Core.Path.{◌≡◌, refl, sym, ◌∙◌, ap}
use mathlib.Core.List.{List}
use mathlib.Core.Logic.{inl, inr}
use Prim.Native.Nat.{ℕ, ◌+◌, ◌≤◌, ◌<◌}
use native.Mathlib.Omega.{arith}
use native.Mathlib.Decide.{ℕ_discrete}
use lib.ListN.{length, get_or, set}
use lib.Seq.{get_or-set_same, get_or-set_other}
use Rattle.paper.specs.Forest.{Trees, joined}
use Rattle.paper.proofs.Join.{Mates}
use Rattle.paper.proofs.Bridge.{Bridge, bridged_mates, bridged_mates_other, joined_bridge}
use Rattle.trees.proofs.Metric.{Metric, Nearer}
use Rattle.trees.proofs.Inside.{Inside}
use Rattle.joining.specs.Filled.{Replaced}
use Rattle.joining.specs.Rooted.{Low, Rooted, Turned}
use Rattle.joining.specs.Held.{Held, Ready, Renewed, Joined}
use Rattle.joining.proofs.Turned.{low_set}
use Rattle.joining.proofs.Held.{rooted_same, turned_here, turned_elsewhere, turned_held}

-- The tree of a state turned to it and then another to a state of it: the two are ready to be joined.
ready : (n u v : ℕ) → u < n → v < n → (F : Trees) → Metric F → Inside n F → ¬ Mates F u v → (far parent tree once twice : List ℕ)
    → Held n F far parent tree → Turned parent u (get_or far u 0) once → Turned once v (get_or far v 0) twice → Ready n u v F far twice tree
ready n u v ub vb F M I apart far parent tree once twice H first second =
    let K = turned_held n F M I far parent tree once H u ub first in
    record {
      metric = M;
      inside = I;
      held = turned_held n F M I far once tree twice K v vb second;
      apart = apart;
      first = turned_elsewhere n F M I far once tree twice K v vb second u (λ e. apart (sym e)) (turned_here n F M I far parent tree once H u ub first);
      second = turned_here n F M I far once tree twice K v vb second;
    }

module _ (n u v : ℕ) (ub : u < n) (vb : v < n) (F : Trees) (far parent tree : List ℕ) (R : Ready n u v F far parent tree) (long : v < length parent) where
  -- The two trees are bridged by the pair.
  B : Bridge F (joined F u v) u v
  B = joined_bridge F u v R.apart

  -- All parents but v's stay.
  other : (x : ℕ) → ¬ (x ≡ v) → get_or (set parent v u) x 0 ≡ get_or parent x 0
  other x ne = get_or-set_other parent v x u 0 ne

  -- A neighbour nearer to r is nearer to another state to which the way is longer by as much for both.
  nearer-joined : (x p r to more : ℕ) → Nearer F x r p → (joined F u v).distance x to ≡ F.distance x r + more
      → (joined F u v).distance p to ≡ F.distance p r + more → Nearer (joined F u v) x to p
  nearer-joined x p r to more N e k =
      record {
        mate = B.keep x p N.mate;
        step = B.same x p N.mate ∙ N.step;
        less = omega (arith, e, k, N.less);
      }

  -- In u's tree the parents lead to u.
  up_first : (x : ℕ) → Mates F u x → ¬ (x ≡ u) → Nearer (joined F u v) x u (get_or (set parent v u) x 0)
  up_first x m ne =
      let N = R.first.up x m ne in
      let p : ℕ = get_or parent x 0 in
      rw (other x (λ e. R.apart (m ∙ ap F.tree e)))
      (nearer-joined x p u u 0 N (omega (arith, B.same x u (sym m))) (omega (arith, B.same p u (sym N.mate ∙ sym m))))

  -- In v's tree they lead to v, and on from v to u.
  up_second : (x : ℕ) → Mates F v x → Nearer (joined F u v) x u (get_or (set parent v u) x 0)
  up_second x m =
      let M = R.metric in
      elim (ℕ_discrete x v) [
        | yes e ↦
            rw (e, get_or-set_same parent v u 0)
            (record {
              mate = sym (B.meet u v refl refl);
              step = omega (arith, B.back v u refl refl, M.self u, M.self v);
              less = omega (arith, B.back v u refl refl, B.same u u refl, M.self u, M.self v);
            })
        | no ne ↦
            let N = R.second.up x m ne in
            let p : ℕ = get_or parent x 0 in
            rw (other x ne)
            (nearer-joined x p v u 1 N (omega (arith, B.back x u m refl, M.self u)) (omega (arith, B.back p u (m ∙ N.mate) refl, M.self u)))
      ]

  -- In the joined tree the parents lead to u.
  rooted_joined : Rooted (joined F u v) (set parent v u) u
  rooted_joined =
      record {
        own = other u (λ e. R.apart (ap F.tree e)) ∙ R.first.own;
        up = λ x m ne. elim (bridged_mates B u x refl m) [ inl k ↦ up_first x k ne | inr k ↦ up_second x k ];
      }

  -- In any other tree they lead where they led.
  rooted_other : (r : ℕ) → ¬ Mates F u r → ¬ Mates F v r → Rooted F parent r → Rooted (joined F u v) (set parent v u) r
  rooted_other r nu nv Q =
      let same : Rooted F (set parent v u) r =
      rooted_same F parent (set parent v u) r (λ x m. other x (λ e. nv (sym (m ∙ ap F.tree e)))) Q in
      record {
        own = same.own;
        up = λ x m ne.
            let k : Mates F r x = bridged_mates_other B r x nu nv m in
            let N = same.up x k ne in
            let p : ℕ = get_or (set parent v u) x 0 in
            nearer-joined x p r r 0 N (omega (arith, B.same x r (sym k))) (omega (arith, B.same p r (sym (k ∙ N.mate))));
      }

  -- With the numbers and the longest distances renewed the arrays hold the trees joined.
  held_joined : (new numbers : List ℕ) → Renewed n u v far parent tree new n → Replaced (λ _. get_or tree v 0) (get_or tree u 0) tree numbers n
      → Held n (joined F u v) new (set parent v u) numbers
  unfolding joined
  held_joined new numbers renewed renumbered =
      let H = R.held in
      record {
        numbers = λ x xb. renumbered.done x xb ∙ rw (H.numbers x xb, H.numbers v vb, H.numbers u ub);
        farthest = λ x xb. (renewed F R).done x xb;
        roots = λ x xb. elim (ℕ_discrete (F.tree u) (F.tree x)) [
          | yes e ↦ (u, sym (B.keep u x e), rooted_joined)
          | no nu ↦ elim (ℕ_discrete (F.tree v) (F.tree x)) [
            | yes e ↦ (u, sym (B.meet u x refl e), rooted_joined)
            | no nv ↦ let (r, m, Q) = H.roots x xb in (r, B.keep x r m, rooted_other r (λ e. nu (e ∙ sym m)) (λ e. nv (e ∙ sym m)) Q)
          ]
        ];
      }

-- Turned to u and to v, renewed, renumbered, and with u as the parent of v, the arrays hold the trees joined.
pub joined_held : (n u v : ℕ) (far parent tree once twice new numbers : List ℕ) → n ≤ 512 → u < n → v < n → v < length twice
    → length new ≡ 512 → length numbers ≡ 512
    → Turned parent u (get_or far u 0) once → Turned once v (get_or far v 0) twice → Low twice
    → Renewed n u v far twice tree new n → Replaced (λ _. get_or tree v 0) (get_or tree u 0) tree numbers n
    → Joined n u v far parent tree new (set twice v u) numbers
joined_held n u v far parent tree once twice new numbers nb ub vb long ln lt first second low renewed renumbered =
    record {
      whole = record { low = low_set twice v u long (omega arith) low; long_far = ln; long_tree = lt };
      holds = λ F M I apart H.
          held_joined n u v ub vb F far twice tree (ready n u v ub vb F M I apart far parent tree once twice H first second) long
          new numbers renewed renumbered;
    }
