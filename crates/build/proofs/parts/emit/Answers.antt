-- Each part is written behind the one before it; together they are the image.
use Rattle.std.proofs.Common.{length, ap, ◌∙◌, arith}
use Rattle.words.specs.Placed.{placed}
use Rattle.build.proofs.Counted.{total_few, held_few, length-entries}
use Rattle.build.proofs.Pieces.{length-labelled}
use Rattle.build.proofs.Emitted.{emitted}
use Rattle.build.proofs.parts.emit.Goals as goal

pub put_bytes-requires : goal.put_bytes-requires
put_bytes-requires g c =
    let M = c.requires.0 in
    omega (arith, ap length c.labels.ensures, length-labelled (g.S.Source.table c.args.source.now), M.states_are, M.held_are, c.requires.3)

pub put_entries-end-requires : goal.put_entries-end-requires
put_entries-end-requires g c = let M = c.requires.0 in (M.states_are, omega (arith, length-entries M, c.requires.3))

pub put_trailer-requires : goal.put_trailer-requires
put_trailer-requires g c =
    let M = c.requires.0 in
    (omega (arith, M.states_are, M.accepted.few_states), total_few M, held_few M, omega (arith, c.put_entries-end.ensures.0, length-entries M, c.requires.3))

pub overflow_add-end : goal.overflow_add-end
overflow_add-end g c =
    let M = c.requires.0 in
    omega (arith, c.put_entries-end.ensures.0, length-entries M, total_few M, held_few M, M.states_are, M.accepted.few_states)

pub put_check-requires : goal.put_check-requires
put_check-requires g c =
    let M = c.requires.0 in
    let far = c.put_entries-end.ensures.0 in
    let few = length-entries M in (
      omega (arith, far, few, c.requires.3),
      omega (arith, far, few),
      omega (arith, far, few, total_few M, held_few M, M.states_are, M.accepted.few_states),
    )

pub returns : goal.returns
returns g c =
    emitted c.requires.0 c.requires.1 c.requires.2 c.args.room.now _ _ _ _ _ _ c.put_entries-end.result c.requires.3 c.put_front.ensures
    (c.put_bytes.ensures ∙ ap (placed c.put_front.new.room 12) c.labels.ensures) (rw (← c.def.ensures) c.put_records.ensures)
    c.put_entries-end.ensures c.put_trailer.ensures c.put_check.ensures
