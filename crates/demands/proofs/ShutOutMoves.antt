-- Kinds of wrong programs that the promises of the moves shut out by name.
use mathlib.Core.Path.{◌≡◌}
use native.Mathlib.Omega.{arith}
use Rattle.paper.specs.Labels.{two}
use Rattle.paper.specs.Results.{moved}
use Rattle.paper.specs.Operations.{Built, forward, back}
use Rattle.paper.specs.Promises.{MovesForward, MovesBack}
use Rattle.paper.specs.Handed.{ToConvert}
use Rattle.paper.specs.Cases.{T2, room}
use Rattle.demands.proofs.Known as known
use Rattle.demands.proofs.ShutOut.{refuses_all, untouched}

-- A program p that keeps the promise of forward.
module _ (p : ToConvert → Built) (keeps : (x : ToConvert) → MovesForward x.image x.room (p x).number (p x).result_length (p x).room) where
  -- Forward itself.
  abbrev forwarding : ToConvert → Built
  forwarding x = forward x.image x.room

  -- The image of T with D 2.
  abbrev of_one : ToConvert
  of_one = record { image = T2; room = room 328; image_bytes = known.bytes_T2; room_bytes = known.bytes_room 328 }

  -- It does not refuse everything.
  pub forward_refuses_all : ¬ ((x : ToConvert) → ¬ ((p x).number ≡ 0))
  forward_refuses_all = refuses_all (λ x. x.room) forwarding p keeps of_one (known.forward-T).0

  -- It does not leave every room untouched.
  pub forward_untouched : ¬ ((x : ToConvert) → (p x).room ≡ x.room)
  forward_untouched = untouched (λ x. x.room) forwarding p keeps of_one 4 (known.forward-T).1 (λ e. absurd (omega arith))

-- A program p that keeps the promise of back.
module _ (p : ToConvert → Built) (keeps : (x : ToConvert) → MovesBack x.image x.room (p x).number (p x).result_length (p x).room) where
  -- Back itself.
  abbrev backing : ToConvert → Built
  backing x = back x.image x.room

  -- The same image in edition 2.
  abbrev of_two : ToConvert
  of_two = record { image = moved two T2; room = room 324; image_bytes = known.bytes_moved; room_bytes = known.bytes_room 324 }

  -- It does not refuse everything.
  pub back_refuses_all : ¬ ((x : ToConvert) → ¬ ((p x).number ≡ 0))
  back_refuses_all = refuses_all (λ x. x.room) backing p keeps of_two (known.back-T).0

  -- It does not leave every room untouched.
  pub back_untouched : ¬ ((x : ToConvert) → (p x).room ≡ x.room)
  back_untouched = untouched (λ x. x.room) backing p keeps of_two 4 (known.back-T).1 (λ e. absurd (omega arith))
