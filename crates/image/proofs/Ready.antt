-- What a look-up is handed is right.
use Rattle.facts.proofs.ImageFacts.{accepted_image}
use Rattle.image.specs.declared.lookup.Lookup.{Lookup}
use Rattle.image.specs.Laid.{Ready}

pub lookup-ready : (l : Lookup) → Ready l.image.now l.begins.now l.records l.k
lookup-ready l = record { accepted = accepted_image l.image.now l.accepted; begin = l.begin; records_is = l.records_is; classes_is = l.classes_is }
