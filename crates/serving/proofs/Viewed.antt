-- What is asked of an image whose columns are read holds where it is opened as a view.
use mathlib.Core.Path.{refl}
use mathlib.Core.List.{List}
use Prim.Native.Nat.{ℕ}
use denote.Ref.{Bor}
use Rattle.facts.proofs.ImageFacts.{AcceptedImage}
use Rattle.view.specs.declared.View.{View}
use Rattle.view.proofs.Opening.{IsOpen}
use Rattle.serving.specs.Accepted.{Accepted}

-- The view of an accepted image holds its counts.
pub opened_accepted : (s : Bor (List ℕ)) (r : View) → IsOpen s r → AcceptedImage s.now → Accepted r.bytes.now r.n r.k r.m
opened_accepted s r e A = rw (e.0, e.1.0, e.1.1.0, e.1.1.1) (record { image_is = A; states_are = refl; classes_are = refl; entries_are = refl })
