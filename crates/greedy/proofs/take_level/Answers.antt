use Rattle.std.proofs.Common.{◌≡◌, ◌+◌, sym, subst, get_or, arith, rules}
use Rattle.paper.specs.Levels.{row}
use Rattle.joining.specs.declared.Forest.{Forest}
use Rattle.weights.specs.Weighed.{weight_in}
use Rattle.pairs.specs.Taken.{is_taken}
use Rattle.greedy.specs.Good.{Becomes}
use Rattle.pairs.proofs.Taken.{taken_short}
use Rattle.greedy.proofs.Rows.{rows_start, row_starts, row_dropped, row_added, row_sought, row_full, rows_more, rows_end, next_behind, next_place}
use Rattle.greedy.proofs.take_level.Goals as goal
use Rattle.greedy.proofs.take_level.Goals.{Joined-f-u, else-f-u, else-takes, then-f-u+in_default, then-takes}

-- Where the ways meet the row is taken: it was full, or its pairs were tried one after the other.
row_taken : (c : Joined-f-u)
    → let l = c.loop-u in
    let a = c.args in
    Becomes a.n a.bound (λ F. row a.n a.bound (weight_in a.weights.now) a.w l.u F a.n) l.f.d l.f.parent l.f.tree c.if-f-u.f.d c.if-f-u.f.parent c.if-f-u.f.tree
row_taken c =
    let l = c.loop-u in
    let a = c.args in
    let weight = weight_in a.weights.now in
    let held : Forest → Type 0 = λ (g : Forest). Becomes a.n a.bound (λ F. row a.n a.bound weight a.w l.u F a.n) l.f.d l.f.parent l.f.tree g.d g.parent g.tree in
    elim c.if-f-u.branch [
      | then-f-u+in_default w ↦ subst held (sym w.f-is) (rw w.in_default.is at w.loop-next.invariant.taken)
      | else-f-u w ↦ subst held (sym w.f-is) (row_full a.n a.bound weight a.w l.f.d l.f.parent l.f.tree l.invariant.whole l.u w.if-f-u.false)
    ]

pub loop-u-init : goal.loop-u-init
loop-u-init c =
    let a = c.args in
    let f = a.f0 in
    rows_start a.n a.bound (weight_in a.weights.now) a.w f.d f.parent f.tree (record { low = f.low; long_far = search rules; long_tree = search rules })

pub loop-next-init : goal.loop-next-init
loop-next-init c =
    let a = c.args in
    let l = c.loop-u in
    let f = l.f in
    let weight = weight_in a.weights.now in
    let found = c.next_of-next in
    record {
      place = next_place a.n (weight l.u) l.u (l.u + 1) a.w found.result (omega arith) found.ensures;
      taken = row_sought a.n a.bound weight a.w l.u f.d f.parent f.tree f.d f.parent f.tree (l.u + 1) found.result (omega arith) found.ensures
          (row_starts a.n a.bound weight a.w f.d f.parent f.tree l.invariant.whole l.u);
    }

pub join-f-requires : goal.join-f-requires
join-f-requires c =
    let a = c.args in
    let u = c.loop-u.u in
    let f = c.loop-next.f in
    let v = c.in-Some.v in
    let place = rw c.in-Some.is at c.loop-next.invariant.place in
    let short = taken_short a.w a.w (get_or f.tree u 0) (get_or f.tree v 0) (get_or f.d u 0) (get_or f.d v 0) a.bound c.takes.result c.takes.ensures c.if-takes.true in
    (c.requires, c.loop-u-test.true, place.1, omega (arith, short, c.ranges.bound))

pub loop-next-smaller : goal.loop-next-smaller
loop-next-smaller c =
    let a = c.args in
    let place = rw c.in-Some.is at c.loop-next.invariant.place in
    let found = c.next_of-next-in-Some in
    let behind = next_behind a.n (weight_in a.weights.now c.loop-u.u) (c.in-Some.v + 1) a.w found.result (omega (arith, place.1)) found.ensures in
    rw c.in-Some.is (omega (arith, behind, place.1))

pub loop-next-preserved : goal.loop-next-preserved
loop-next-preserved c =
    let a = c.args in
    let weight = weight_in a.weights.now in
    let u = c.loop-u.u in
    let o = c.loop-u.f in
    let f = c.loop-next.f in
    let g = c.if-takes.f in
    let v = c.in-Some.v in
    let place = rw c.in-Some.is at c.loop-next.invariant.place in
    let before = rw c.in-Some.is at c.loop-next.invariant.taken in
    let found = c.next_of-next-in-Some in
    let asked : c.takes.result ≡ is_taken (weight u v) a.w (get_or f.tree u 0) (get_or f.tree v 0) (get_or f.d u 0) (get_or f.d v 0) a.bound = rw place.2 c.takes.ensures in
    let held : Forest → Type 0 = λ (g : Forest). Becomes a.n a.bound (λ F. row a.n a.bound weight a.w u F (v + 1)) o.d o.parent o.tree g.d g.parent g.tree in
    let turned = elim c.if-takes.branch as (λ _. held g) [
      | then-takes w ↦
          let j = w.join-f.result in
          subst held (sym w.f-is) (row_added a.n a.bound weight a.w u o.d o.parent o.tree f.d f.parent f.tree v place.0 place.1 before _ asked w.if-takes.true j.d j.parent j.tree w.join-f.ensures)
      | else-takes w ↦ subst held (sym w.f-is) (row_dropped a.n a.bound weight a.w u o.d o.parent o.tree f.d f.parent f.tree v place.0 place.1 before _ asked w.if-takes.false)
    ] in
    record {
      place = next_place a.n (weight u) u (v + 1) a.w found.result (omega (arith, place.0)) found.ensures;
      taken = row_sought a.n a.bound weight a.w u o.d o.parent o.tree g.d g.parent g.tree (v + 1) found.result (omega (arith, place.1)) found.ensures turned;
    }

pub loop-u-preserved : goal.loop-u-preserved
loop-u-preserved c =
    let l = c.loop-u in
    let a = c.args in
    let g = c.if-f-u.f in
    rows_more a.n a.bound (weight_in a.weights.now) a.w l.u a.f0.d a.f0.parent a.f0.tree l.f.d l.f.parent l.f.tree
    g.d g.parent g.tree l.invariant (row_taken (goal.at.loop-u-preserved c).Joined-f-u)

pub returns : goal.returns
returns c =
    let l = c.loop-u in
    let a = c.args in
    let e : l.u ≡ a.n = omega arith in
    rows_end a.n a.bound (weight_in a.weights.now) a.w a.f0.d a.f0.parent a.f0.tree l.f.d l.f.parent l.f.tree (rw e at l.invariant)
