use mathlib.Core.Path.{◌≡◌, refl, sym, subst}
use Prim.Native.Nat.{ℕ, ◌≤◌, ◌<◌, ◌+◌}
use native.Mathlib.Omega.{arith}
use lib.ListN.{length, get_or, set}
use Rattle.paper.specs.Words.{byte_at}
use Rattle.paper.specs.View.{Found, look}
use Rattle.paper.specs.Image.{states, class_of, image_view}
use Rattle.scan.proofs.Found.{look-reached}
use Rattle.scan.proofs.OneByte.{class_in}
use Rattle.counting.specs.Columns.{server_of, running_of}
use Rattle.counting.proofs.Counting.{server_inside, SoFar, so_far_none, so_far_room, so_far_more, so_far_all}
use Rattle.counting.proofs.count_bytes.Goals as goal
use Rattle.counting.proofs.count_bytes.Goals.{After-look_up-found, After-shared_slice_known-in-loop-byte-1}

-- The byte is one.
byte : (c : After-shared_slice_known-in-loop-byte-1) → byte_at c.args.payload.now c.loop-byte.byte-index < 256
byte c = omega (arith, c.type_inv.payload c.loop-byte.byte-index)

-- What the byte's look_up finds.
abbrev found : After-look_up-found → Found
found c =
    let b = c.args.image.now in
    look (image_view b) c.loop-byte.state (class_of b (byte_at c.args.payload.now c.loop-byte.byte-index))

-- The look_up in code found that.
target_is : (c : After-look_up-found) → c.look_up-found.result.target ≡ (found c).target
target_is c = c.look_up-found.ensures.0

server_is : (c : After-look_up-found) → c.look_up-found.result.server ≡ (found c).server
server_is c = c.look_up-found.ensures.2

-- The server is a state.
server_few : (c : After-look_up-found) → (found c).server < 512
server_few c =
    let A = c.requires.0.accepted in
    omega (arith, server_inside c.args.image.now A c.loop-byte.state (byte_at c.args.payload.now c.loop-byte.byte-index) c.loop-byte.invariant.0 (byte (goal.at.After-look_up-found c).After-shared_slice_known-in-loop-byte-1), A.few_states)

-- A byte is left.
more : (c : After-look_up-found) → c.loop-byte.byte-index < length c.args.payload.now
more c = c.loop-byte-test.true

pub loop-byte-init : goal.loop-byte-init
loop-byte-init c =
    let b = c.args.image.now in
    let payload = c.args.payload.now in
    rw c.get16-state.ensures
    (c.requires.0.accepted.begins, so_far_none server_of b payload c.args.served.now c.requires.2, so_far_none running_of b payload c.args.ran.now c.requires.3)

pub look_up-found-requires : goal.look_up-found-requires
look_up-found-requires c =
    let b = c.args.image.now in
    let x = byte_at c.args.payload.now c.loop-byte.byte-index in
    (c.requires.0, c.loop-byte.invariant.0, class_in b c.requires.0.accepted x (class_of b x) (byte (goal.at.look_up-found-requires c).After-shared_slice_known-in-loop-byte-1) refl)

pub bounds-served-server : goal.bounds-served-server
bounds-served-server c = let G = (goal.at.bounds-served-server c).After-look_up-found in omega (arith, server_is G, server_few G)

pub bounds-served-server-in-loop-byte : goal.bounds-served-server-in-loop-byte
bounds-served-server-in-loop-byte c = let G = (goal.at.bounds-served-server-in-loop-byte c).After-look_up-found in omega (arith, server_is G, server_few G)

pub overflow_add-served : goal.overflow_add-served
overflow_add-served c =
    let G = (goal.at.overflow_add-served c).After-look_up-found in
    rw (server_is G) (omega (arith, c.requires.1, so_far_room server_of c.args.image.now c.args.payload.now c.loop-byte.state c.loop-byte.byte-index (more G) c.loop-byte.served c.loop-byte.invariant.1))

pub overflow_add-ran : goal.overflow_add-ran
overflow_add-ran c =
    let G = (goal.at.overflow_add-ran c).After-look_up-found in
    omega (arith, c.requires.1, so_far_room running_of c.args.image.now c.args.payload.now c.loop-byte.state c.loop-byte.byte-index (more G) c.loop-byte.ran c.loop-byte.invariant.2)

pub loop-byte-preserved : goal.loop-byte-preserved
loop-byte-preserved c =
    let b = c.args.image.now in
    let payload = c.args.payload.now in
    let A = c.requires.0.accepted in
    let x = byte_at payload c.loop-byte.byte-index in
    let served = so_far_more server_of b payload c.loop-byte.state c.loop-byte.byte-index (more (goal.at.loop-byte-preserved c).After-look_up-found) c.loop-byte.served c.loop-byte.invariant.1 (server_few (goal.at.loop-byte-preserved c).After-look_up-found) in
    let ran = so_far_more running_of b payload c.loop-byte.state c.loop-byte.byte-index (more (goal.at.loop-byte-preserved c).After-look_up-found) c.loop-byte.ran c.loop-byte.invariant.2 (omega (arith, c.loop-byte.invariant.0, A.few_states)) in
    let target = sym (target_is (goal.at.loop-byte-preserved c).After-look_up-found) in
    let server = server_is (goal.at.loop-byte-preserved c).After-look_up-found in (
      subst (λ (q : ℕ). q < states b) target (look-reached b A c.loop-byte.state (class_of b x) c.loop-byte.invariant.0 (A.all_classed.below x (byte (goal.at.loop-byte-preserved c).After-shared_slice_known-in-loop-byte-1))).inside,
      subst (λ (q : ℕ). SoFar server_of b payload q (c.loop-byte.byte-index + 1) (set c.loop-byte.served c.look_up-found.result.server (get_or c.loop-byte.served c.look_up-found.result.server 0 + 1))) target (rw server served),
      subst (λ (q : ℕ). SoFar running_of b payload q (c.loop-byte.byte-index + 1) (set c.loop-byte.ran c.loop-byte.state (get_or c.loop-byte.ran c.loop-byte.state 0 + 1))) target ran,
    )

pub returns : goal.returns
returns c =
    let b = c.args.image.now in
    let payload = c.args.payload.now in
    let all : length payload ≤ c.loop-byte.byte-index = c.loop-byte-test.false in
    (so_far_all server_of b payload c.loop-byte.state c.loop-byte.byte-index c.loop-byte.served all c.loop-byte.invariant.1, so_far_all running_of b payload c.loop-byte.state c.loop-byte.byte-index c.loop-byte.ran all c.loop-byte.invariant.2)
