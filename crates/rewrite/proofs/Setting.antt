-- What is known of an image that is rewritten, of its states and of its table.
use Rattle.std.proofs.Common.{◌≡◌, sym, ◌∙◌}
use Rattle.paper.specs.Table as table
use Rattle.paper.specs.Results.{table_of}
use Rattle.facts.proofs.ImageFacts.{AcceptedImage, accepted_image}
use Rattle.image.specs.Laid.{Ready}
use Rattle.image.specs.declared.Image.{Image}
use Rattle.rewrite.specs.Staying.{Setting}
use Rattle.rewrite.specs.declared.rewriting.Rewriting.{Rewriting}
use Rattle.rewrite.proofs.Standing.{table_reads}

-- An image that is judged 0 is accepted.
pub image_accepted : (i : Image) → AcceptedImage i.bytes.now
image_accepted i = accepted_image i.bytes.now i.accepted

module _ (r : Rewriting) where
  -- The image, its states and classes, and the defaults that stay.
  pub setting : Setting r.image.bytes.now r.image.n r.image.k r.records r.begins.now r.stay.now
  setting =
      record {
        readable = r.readable;
        accepted = image_accepted r.image;
        states_are = r.image.states_are;
        classes_are = r.image.classes_are;
        records_are = r.records_are;
        begin = r.begin;
        stays = r.staying;
      }

  -- What a look-up is handed beside the image is right.
  pub ready : Ready r.image.bytes.now r.begins.now r.records r.image.k
  ready = record { accepted = image_accepted r.image; begin = r.begin; records_is = r.records_are; classes_is = r.image.classes_are }

  -- Its table has as many states.
  pub table_states : r.image.n ≡ table.states (table_of r.image.bytes.now)
  table_states = r.image.states_are ∙ sym (table_reads r.image.bytes.now r.readable (image_accepted r.image)).states_is

  -- And as many classes.
  pub table_classes : r.image.k ≡ table.classes (table_of r.image.bytes.now)
  table_classes = r.image.classes_are ∙ sym (table_reads r.image.bytes.now r.readable (image_accepted r.image)).classes_is
