use mathlib.Core.Path.{◌≡◌, refl, sym, ap, subst, ◌∙◌}
use mathlib.Core.List.{List}
use mathlib.Core.Option.{none}
use Prim.Native.Nat.{ℕ, ◌+◌, ◌-◌, ◌*◌, ◌≤◌, ◌<◌}
use native.Mathlib.Omega.{arith}
use lib.ListN.{length, take, drop, get_or}
use Rattle.paper.specs.Below.{each, sum}
use Rattle.paper.specs.Words.{Bytes}
use Rattle.paper.specs.View.{View}
use Rattle.paper.specs.Image.{states, entry_at}
use Rattle.paper.specs.Results.{entry_bytes}
use Rattle.paper.specs.Patch as own
use Rattle.paper.specs.Patch.{listed_states, listed_at, patched_view}
use Rattle.words.specs.Placed.{placed}
use Rattle.words.proofs.Lent.{fits_bytes}
use Rattle.words.proofs.Laid.{Laid, laid_none, laid_room, laid_more}
use Rattle.paper.proofs.Sums.{sum_up}
use Rattle.patch.proofs.Begins as starts
use Rattle.patch.proofs.FromAccepted.{counts}
use Rattle.apply.proofs.Sizes.{rows-size, few, total_few, long_image, long_patch}
use Rattle.apply.proofs.Runs.{run, run_room, laid_run}
use Rattle.apply.proofs.Gaps.{Between, between_start, gap_unlisted, rest_unlisted, between_more}
use Rattle.apply.proofs.Copied.{entries-run, run_wide, begins_up, entries-listed, listed_wide}
use Rattle.apply.proofs.put_entries.Goals as goal
use Rattle.apply.proofs.put_entries.Goals.{After-copy, After-copy-2, After-copy-in-loop-i, After-loop-i, After-state_at-s, At-loop-i}

abbrev view : At-loop-i → View
view c = patched_view c.args.image.now c.args.x.now

-- The numbers are small, and the room holds all entries.
sizes : (c : At-loop-i) → (c.args.n ≤ 512) × (c.args.p ≤ 64)
sizes c = let P = c.requires.0 in let (n, p, _, _) = few P.accepted in (omega (arith, P.states_are), omega (arith, P.listed_are))

fits : (c : At-loop-i) → let t = c.args in t.at + length (each t.n (entry_bytes (view c))) ≤ length t.room.now
fits c = omega (arith, c.requires.2, rows-size (view c) c.args.n)

-- What is laid ends before place 600000.
near : (c : At-loop-i) (s : ℕ) → s ≤ c.args.n → c.args.at + 4 * sum s (view c).count ≤ 544288
near c s h =
    let P = c.requires.0 in
    omega (arith, c.requires.1, sum_up s c.args.n (view c).count h, total_few P.accepted, ap (λ (k : ℕ). sum k (view c).count) P.states_are)

-- What is laid ends where the sum says.
here_is : (c : At-loop-i) → c.loop-i.here ≡ c.args.at + 4 * sum c.loop-i.done (view c).count
here_is c = omega (arith, c.loop-i.invariant.2.ends, rows-size (view c) c.loop-i.done)

-- Image and patch are bytes.
image_bytes : (c : At-loop-i) → Bytes c.args.image.now
image_bytes c = fits_bytes c.args.image.now c.type_inv.image

patch_bytes : (c : At-loop-i) → Bytes c.args.x.now
patch_bytes c = fits_bytes c.args.x.now c.type_inv.x

-- The next listed state is not before those that are done, and is one of the image.
ahead : (c : After-state_at-s)
    → let t = c.args in
    (c.loop-i.i < listed_states t.x.now) × (c.loop-i.done ≤ c.state_at-s.result) × (c.state_at-s.result < t.n)
ahead c =
    let P = c.requires.0 in
    let h : c.loop-i.i < listed_states c.args.x.now = omega (arith, c.loop-i-test.true, P.listed_are) in
    (h, omega (arith, c.loop-i.invariant.0.ahead_are c.loop-i.i (omega arith) h, c.state_at-s.ensures), omega (arith, P.accepted.below c.loop-i.i h, c.state_at-s.ensures, P.states_are))

-- Where the entries of a state begin, by the list.
begin_is : (c : At-loop-i) (s : ℕ) → s ≤ c.args.n → get_or c.args.begins.now s 0 ≡ entry_at c.args.image.now s 0
begin_is c s h = let P = c.requires.0 in P.begin s (omega (arith, P.states_are))

-- It is a small number, and so is where those of a listed state begin.
begin_small : (c : At-loop-i) (s : ℕ) → s ≤ c.args.n → get_or c.args.begins.now s 0 ≤ 600000
begin_small c s h =
    let P = c.requires.0 in
    let (_, inside) = begins_up c.args.image.now c.args.x.now P.accepted (image_bytes c) s s (omega arith) (omega (arith, P.states_are)) in
    omega (arith, begin_is c s h, inside, (long_image P.accepted).1)

own_small : (c : At-loop-i) (i : ℕ) → i ≤ listed_states c.args.x.now → get_or c.args.own.now i 0 ≤ 600000
own_small c i h =
    let P = c.requires.0 in
    omega (arith, P.own_begin i (omega (arith, P.listed_are)), starts.begin_in (counts P.accepted refl refl) i h, (long_patch P.accepted).1)

-- The part between two states in turn.
between : (c : At-loop-i) (i j : ℕ) → i ≤ j → j ≤ c.args.n
    → let begins = c.args.begins.now in
    (get_or begins i 0 ≤ get_or begins j 0) × (get_or begins j 0 + 12 ≤ length c.args.image.now)
between c i j h l =
    let P = c.requires.0 in
    let (up, inside) = begins_up c.args.image.now c.args.x.now P.accepted (image_bytes c) i j h (omega (arith, P.states_are)) in
    (omega (arith, up, begin_is c i (omega arith), begin_is c j l), omega (arith, inside, begin_is c j l))

-- A run of states that the patch does not list is laid with one copy.
run-placed : (c : At-loop-i) (s : ℕ) → c.loop-i.done ≤ s → s ≤ c.args.n → ((r : ℕ) → c.loop-i.done ≤ r → r < s → listed_at c.args.x.now r ≡ none) → (next : List ℕ)
    → let t = c.args in
    let from = get_or t.begins.now c.loop-i.done 0 in
    let size = get_or t.begins.now s 0 - from in
    next ≡ placed c.loop-i.room c.loop-i.here (take size (drop from t.image.now))
    → (c.loop-i.here + size ≤ length c.loop-i.room) × Laid t.room.now t.at (entry_bytes (view c)) s next (c.loop-i.here + size)
run-placed c s h l free next e =
    let P = c.requires.0 in
    let b = c.args.image.now in
    let x = c.args.x.now in
    let done = c.loop-i.done in
    let k = s - done in
    let to : done + k ≡ s = omega arith in
    let unlisted : (r : ℕ) → done ≤ r → r < done + k → listed_at x r ≡ none = λ r u w. free r u (omega arith) in
    let within : done + k ≤ states b = omega (arith, P.states_are) in
    let from = begin_is c done (omega arith) in
    let upto = begin_is c s l in
    let last : entry_at b (done + k) 0 ≡ entry_at b s 0 = ap (λ (q : ℕ). entry_at b q 0) to in
    let wide = run_wide b x P.accepted (image_bytes c) done k within unlisted in
    let size : get_or c.args.begins.now s 0 - get_or c.args.begins.now done 0 ≡ entry_at b (done + k) 0 - entry_at b done 0 = omega (arith, from, upto, last) in
    let part : take (get_or c.args.begins.now s 0 - get_or c.args.begins.now done 0) (drop (get_or c.args.begins.now done 0) b) ≡ run (entry_bytes (view c)) done k
    = rw (size, from) (entries-run b x P.accepted (image_bytes c) done k within unlisted) in
    let there = c.loop-i.here + (get_or c.args.begins.now s 0 - get_or c.args.begins.now done 0) in
    let room = run_room c.loop-i.invariant.2 c.args.n k (omega arith) (fits c) in (
      omega (arith, room, wide, from, upto, last),
      subst (λ (r : ℕ). Laid c.args.room.now c.args.at (entry_bytes (view c)) r next there) to
          (laid_run c.loop-i.invariant.2 c.args.n k (omega arith) (fits c) next there (omega (arith, wide, from, upto, last)) (e ∙ ap (placed c.loop-i.room c.loop-i.here) part)),
    )

-- The run up to the next listed state.
gap : (c : After-state_at-s)
    → let begins = c.args.begins.now in
    (get_or begins c.loop-i.done 0 ≤ get_or begins c.state_at-s.result 0) × (get_or begins c.state_at-s.result 0 + 12 ≤ length c.args.image.now)
gap c = let (_, from, below) = ahead c in between (goal.at.After-state_at-s c).At-loop-i c.loop-i.done c.state_at-s.result from (omega arith)

-- It is laid, whatever the room is after the copy.
gap_placed : (c : After-state_at-s) (next : List ℕ)
    → let t = c.args in
    let from = get_or t.begins.now c.loop-i.done 0 in
    let size = get_or t.begins.now c.state_at-s.result 0 - from in
    next ≡ placed c.loop-i.room c.loop-i.here (take size (drop from t.image.now))
    → (c.loop-i.here + size ≤ length c.loop-i.room) × Laid t.room.now t.at (entry_bytes (view (goal.at.After-state_at-s c).At-loop-i)) c.state_at-s.result next (c.loop-i.here + size)
gap_placed c next =
    let (h, from, below) = ahead c in
    run-placed (goal.at.After-state_at-s c).At-loop-i c.state_at-s.result from (omega arith)
    (λ r u w. gap_unlisted c.requires.0.accepted.rises c.loop-i.invariant.0 h r u (omega (arith, c.state_at-s.ensures))) next

run_laid : (c : After-copy)
    → let t = c.args in
    let s = c.state_at-s.result in
    Laid t.room.now t.at (entry_bytes (view (goal.at.After-copy c).At-loop-i)) s c.copy.new.room (c.loop-i.here + (get_or t.begins.now s 0 - get_or t.begins.now c.loop-i.done 0))
run_laid c = (gap_placed (goal.at.After-copy c).After-state_at-s c.copy.new.room c.copy.ensures).1

-- It ends before place 600000.
run_near : (c : After-copy)
    → let t = c.args in
    c.loop-i.here + (get_or t.begins.now c.state_at-s.result 0 - get_or t.begins.now c.loop-i.done 0) ≤ 544288
run_near c =
    let s = c.state_at-s.result in
    omega (arith, (run_laid c).ends, rows-size (view (goal.at.After-copy c).At-loop-i) s, near (goal.at.After-copy c).At-loop-i s (omega (arith, ahead (goal.at.After-copy c).After-state_at-s)))

-- The part of the listed state in the patch: its size, that it stands there, and that it is the state's entries.
listed : (c : After-copy)
    → let t = c.args in
    let from = get_or t.own.now c.loop-i.i 0 in
    let end = get_or t.own.now (c.loop-i.i + 1) 0 in
    let row = entry_bytes (view (goal.at.After-copy c).At-loop-i) c.state_at-s.result in
    (from + length row ≡ end) × (end + 12 ≤ length t.x.now) × (take (end - from) (drop from t.x.now) ≡ row)
listed c =
    let P = c.requires.0 in
    let (h, _, _) = ahead (goal.at.After-copy c).After-state_at-s in
    let b = c.args.image.now in
    let x = c.args.x.now in
    let i = c.loop-i.i in
    let from : get_or c.args.own.now i 0 ≡ own.entry_at x i 0 = P.own_begin i (omega (arith, P.listed_are)) in
    let end : get_or c.args.own.now (i + 1) 0 ≡ own.entry_at x (i + 1) 0 = P.own_begin (i + 1) (omega (arith, P.listed_are)) in
    let (wide, inside) = listed_wide b x P.accepted (image_bytes (goal.at.After-copy c).At-loop-i) (patch_bytes (goal.at.After-copy c).At-loop-i) i h in
    let row = ap (entry_bytes (view (goal.at.After-copy c).At-loop-i)) c.state_at-s.ensures in
    let part : take (get_or c.args.own.now (i + 1) 0 - get_or c.args.own.now i 0) (drop (get_or c.args.own.now i 0) x) ≡ entry_bytes (view (goal.at.After-copy c).At-loop-i) (own.state_at_of x i)
    = rw (from, end) (entries-listed b x P.accepted (image_bytes (goal.at.After-copy c).At-loop-i) (patch_bytes (goal.at.After-copy c).At-loop-i) i h) in
    (omega (arith, wide, from, end, ap length row), omega (arith, inside, end), part ∙ sym row)

-- There is room for it.
listed-room : (c : After-copy)
    → let t = c.args in
    let s = c.state_at-s.result in
    c.loop-i.here + (get_or t.begins.now s 0 - get_or t.begins.now c.loop-i.done 0) + length (entry_bytes (view (goal.at.After-copy c).At-loop-i) s) ≤ length c.copy.new.room
listed-room c = laid_room (run_laid c) c.args.n (ahead (goal.at.After-copy c).After-state_at-s).2 (fits (goal.at.After-copy c).At-loop-i)

-- What is laid with it.
both_laid : (c : After-copy-in-loop-i)
    → let t = c.args in
    let s = c.state_at-s.result in
    Laid t.room.now t.at (entry_bytes (view (goal.at.After-copy-in-loop-i c).At-loop-i)) (s + 1) c.copy-in-loop-i.new.room
    (c.loop-i.here + (get_or t.begins.now s 0 - get_or t.begins.now c.loop-i.done 0) + (get_or t.own.now (c.loop-i.i + 1) 0 - get_or t.own.now c.loop-i.i 0))
both_laid c =
    let (wide, _, part) = listed (goal.at.After-copy-in-loop-i c).After-copy in
    laid_more (run_laid (goal.at.After-copy-in-loop-i c).After-copy) c.args.n (ahead (goal.at.After-copy-in-loop-i c).After-state_at-s).2 (fits (goal.at.After-copy-in-loop-i c).At-loop-i) c.copy-in-loop-i.new.room _ (omega (arith, wide)) (c.copy-in-loop-i.ensures ∙ ap (placed c.copy.new.room _) part)

-- The rest behind the last listed state.
rest : (c : After-loop-i)
    → let t = c.args in
    (get_or t.begins.now c.loop-i.done 0 ≤ get_or t.begins.now t.n 0) × (get_or t.begins.now t.n 0 + 12 ≤ length t.image.now)
rest c = between (goal.at.After-loop-i c).At-loop-i c.loop-i.done c.args.n c.loop-i.invariant.1 (omega arith)

rest_placed : (c : After-loop-i) (next : List ℕ)
    → let t = c.args in
    let from = get_or t.begins.now c.loop-i.done 0 in
    let size = get_or t.begins.now t.n 0 - from in
    next ≡ placed c.loop-i.room c.loop-i.here (take size (drop from t.image.now))
    → (c.loop-i.here + size ≤ length c.loop-i.room) × Laid t.room.now t.at (entry_bytes (view (goal.at.After-loop-i c).At-loop-i)) t.n next (c.loop-i.here + size)
rest_placed c next =
    let P = c.requires.0 in
    run-placed (goal.at.After-loop-i c).At-loop-i c.args.n c.loop-i.invariant.1 (omega arith)
    (λ r u w. rest_unlisted P.accepted.rises c.loop-i.invariant.0 (omega (arith, c.loop-i-test.false, P.listed_are)) r u) next

-- With it all are laid.
all_laid : (c : After-copy-2)
    → let t = c.args in
    Laid t.room.now t.at (entry_bytes (view (goal.at.After-copy-2 c).At-loop-i)) t.n c.copy-2.new.room (c.loop-i.here + (get_or t.begins.now t.n 0 - get_or t.begins.now c.loop-i.done 0))
all_laid c = (rest_placed (goal.at.After-copy-2 c).After-loop-i c.copy-2.new.room c.copy-2.ensures).1

pub loop-i-init : goal.loop-i-init
loop-i-init c = (between_start _, omega arith, laid_none _ _ _ _ refl)

pub state_at-s-requires : goal.state_at-s-requires
state_at-s-requires c = let P = c.requires.0 in omega (arith, c.loop-i-test.true, P.listed_are, P.accepted.long)

pub offset_bounds-begins-done : goal.offset_bounds-begins-done
offset_bounds-begins-done c = omega (arith, ahead (goal.at.offset_bounds-begins-done c).After-state_at-s, sizes (goal.at.offset_bounds-begins-done c).At-loop-i)

pub bounds-begins-done : goal.bounds-begins-done
bounds-begins-done c = omega (arith, ahead (goal.at.bounds-begins-done c).After-state_at-s, sizes (goal.at.bounds-begins-done c).At-loop-i)

pub overflow_cast-from : goal.overflow_cast-from
overflow_cast-from c = omega (arith, begin_small (goal.at.overflow_cast-from c).At-loop-i c.loop-i.done c.loop-i.invariant.1)

pub offset_bounds-begins-s : goal.offset_bounds-begins-s
offset_bounds-begins-s c = omega (arith, ahead (goal.at.offset_bounds-begins-s c).After-state_at-s, sizes (goal.at.offset_bounds-begins-s c).At-loop-i)

pub bounds-begins-s : goal.bounds-begins-s
bounds-begins-s c = omega (arith, ahead (goal.at.bounds-begins-s c).After-state_at-s, sizes (goal.at.bounds-begins-s c).At-loop-i)

pub overflow_cast-size : goal.overflow_cast-size
overflow_cast-size c = omega (arith, begin_small (goal.at.overflow_cast-size c).At-loop-i c.state_at-s.result (omega (arith, ahead (goal.at.overflow_cast-size c).After-state_at-s)))

pub overflow_sub-size : goal.overflow_sub-size
overflow_sub-size c = omega (arith, gap (goal.at.overflow_sub-size c).After-state_at-s)

pub copy-requires : goal.copy-requires
copy-requires c =
    (omega (arith, gap (goal.at.copy-requires c).After-state_at-s), (gap_placed (goal.at.copy-requires c).After-state_at-s _ refl).0)

pub overflow_add-here : goal.overflow_add-here
overflow_add-here c = omega (arith, run_near (goal.at.overflow_add-here c).After-copy)

pub offset_bounds-own-i : goal.offset_bounds-own-i
offset_bounds-own-i c = omega (arith, c.loop-i-test.true, sizes (goal.at.offset_bounds-own-i c).At-loop-i)

pub bounds-own-i : goal.bounds-own-i
bounds-own-i c = omega (arith, c.loop-i-test.true, sizes (goal.at.bounds-own-i c).At-loop-i)

pub overflow_cast-start : goal.overflow_cast-start
overflow_cast-start c = omega (arith, own_small (goal.at.overflow_cast-start c).At-loop-i c.loop-i.i (omega (arith, (ahead (goal.at.overflow_cast-start c).After-state_at-s).0)))

pub overflow_add-count : goal.overflow_add-count
overflow_add-count c = omega (arith, c.loop-i-test.true, sizes (goal.at.overflow_add-count c).At-loop-i)

pub offset_bounds-own-i-in-loop-i : goal.offset_bounds-own-i-in-loop-i
offset_bounds-own-i-in-loop-i c = omega (arith, c.loop-i-test.true, sizes (goal.at.offset_bounds-own-i-in-loop-i c).At-loop-i)

pub bounds-own-i-in-loop-i : goal.bounds-own-i-in-loop-i
bounds-own-i-in-loop-i c = omega (arith, c.loop-i-test.true, sizes (goal.at.bounds-own-i-in-loop-i c).At-loop-i)

pub overflow_cast-count : goal.overflow_cast-count
overflow_cast-count c = omega (arith, own_small (goal.at.overflow_cast-count c).At-loop-i (c.loop-i.i + 1) (omega (arith, (ahead (goal.at.overflow_cast-count c).After-state_at-s).0)))

pub overflow_sub-count : goal.overflow_sub-count
overflow_sub-count c = omega (arith, (listed (goal.at.overflow_sub-count c).After-copy).0)

pub copy-requires-in-loop-i : goal.copy-requires-in-loop-i
copy-requires-in-loop-i c =
    (omega (arith, (listed (goal.at.copy-requires-in-loop-i c).After-copy).0, (listed (goal.at.copy-requires-in-loop-i c).After-copy).1), omega (arith, (listed (goal.at.copy-requires-in-loop-i c).After-copy).0, listed-room (goal.at.copy-requires-in-loop-i c).After-copy))

pub overflow_add-here-in-loop-i : goal.overflow_add-here-in-loop-i
overflow_add-here-in-loop-i c =
    let s = c.state_at-s.result in
    omega (arith, (both_laid (goal.at.overflow_add-here-in-loop-i c).After-copy-in-loop-i).ends, rows-size (view (goal.at.overflow_add-here-in-loop-i c).At-loop-i) (s + 1), near (goal.at.overflow_add-here-in-loop-i c).At-loop-i (s + 1) (omega (arith, ahead (goal.at.overflow_add-here-in-loop-i c).After-state_at-s)))

pub overflow_add-done : goal.overflow_add-done
overflow_add-done c = omega (arith, ahead (goal.at.overflow_add-done c).After-state_at-s, sizes (goal.at.overflow_add-done c).At-loop-i)

pub overflow_step-i : goal.overflow_step-i
overflow_step-i c = omega (arith, c.loop-i-test.true, sizes (goal.at.overflow_step-i c).At-loop-i)

pub loop-i-smaller : goal.loop-i-smaller
loop-i-smaller c = omega (arith, c.loop-i-test.true)

pub loop-i-preserved : goal.loop-i-preserved
loop-i-preserved c =
    let (h, _, below) = ahead (goal.at.loop-i-preserved c).After-state_at-s in (
      subst (λ (q : ℕ). Between c.args.x.now (c.loop-i.i + 1) (q + 1)) (sym c.state_at-s.ensures) (between_more c.requires.0.accepted.rises c.loop-i.invariant.0 h),
      omega arith,
      both_laid (goal.at.loop-i-preserved c).After-copy-in-loop-i,
    )

pub offset_bounds-begins-done-2 : goal.offset_bounds-begins-done-2
offset_bounds-begins-done-2 c = omega (arith, c.loop-i.invariant.1, sizes (goal.at.offset_bounds-begins-done-2 c).At-loop-i)

pub bounds-begins-done-2 : goal.bounds-begins-done-2
bounds-begins-done-2 c = omega (arith, c.loop-i.invariant.1, sizes (goal.at.bounds-begins-done-2 c).At-loop-i)

pub overflow_cast-from-2 : goal.overflow_cast-from-2
overflow_cast-from-2 c = omega (arith, begin_small (goal.at.overflow_cast-from-2 c).At-loop-i c.loop-i.done c.loop-i.invariant.1)

pub offset_bounds-begins-n : goal.offset_bounds-begins-n
offset_bounds-begins-n c = omega (arith, sizes (goal.at.offset_bounds-begins-n c).At-loop-i)

pub bounds-begins-n : goal.bounds-begins-n
bounds-begins-n c = omega (arith, sizes (goal.at.bounds-begins-n c).At-loop-i)

pub overflow_cast-size-2 : goal.overflow_cast-size-2
overflow_cast-size-2 c = omega (arith, begin_small (goal.at.overflow_cast-size-2 c).At-loop-i c.args.n (omega arith))

pub overflow_sub-size-2 : goal.overflow_sub-size-2
overflow_sub-size-2 c = omega (arith, rest (goal.at.overflow_sub-size-2 c).After-loop-i)

pub copy-requires-2 : goal.copy-requires-2
copy-requires-2 c = (omega (arith, rest (goal.at.copy-requires-2 c).After-loop-i), (rest_placed (goal.at.copy-requires-2 c).After-loop-i _ refl).0)

pub overflow_add-result : goal.overflow_add-result
overflow_add-result c =
    omega (arith, (all_laid (goal.at.overflow_add-result c).After-copy-2).ends, rows-size (view (goal.at.overflow_add-result c).At-loop-i) c.args.n, near (goal.at.overflow_add-result c).At-loop-i c.args.n (omega arith))

pub shape_of-room : goal.shape_of-room
shape_of-room c = (all_laid (goal.at.shape_of-room c).After-copy-2).as_long

pub returns : goal.returns
returns c =
    (omega (arith, (all_laid (goal.at.returns c).After-copy-2).ends, rows-size (view (goal.at.returns c).At-loop-i) c.args.n), (all_laid (goal.at.returns c).After-copy-2).laid)
