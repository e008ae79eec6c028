-- What the look-up is handed is right, and so are the tags; the loop is that of every automaton.
use mathlib.Core.Path.{◌≡◌, ap, ◌∙◌}
use Rattle.paper.specs.Labels.{states_in_word}
use Rattle.paper.specs.Image.{states}
use Rattle.paper.specs.Scan.{scan_of}
use Rattle.facts.proofs.ImageFacts.{image_accepted}
use Rattle.scan.proofs.Tags.{image_stands, image_labelled}
use Rattle.scan.proofs.scan_accepted.Goals as goal
use Rattle.scan.proofs.scan_accepted.Goals.{After-states_of}

-- n is the image's.
states_are : (c : After-states_of) → c.states_of.result ≡ states c.args.image.now
states_are c = c.states_of.ensures ∙ ap states_in_word c.get16.ensures

pub invariant_of-lookup : goal.invariant_of-lookup
invariant_of-lookup c =
    let R = c.requires.0 in
    record { accepted = image_accepted c.args.image.now R.accepted; begin = R.begin; records_is = R.records_is; classes_is = R.classes_is }

pub invariant_of-tags : goal.invariant_of-tags
invariant_of-tags c =
    let T = c.requires.1 in
    let S = image_stands c.args.image.now c.requires.0.accepted c.states_of.result (states_are (goal.at.invariant_of-tags c).After-states_of) _ T.edition_is c.args.firsts.now T in
    record { near = S.near; few_states = S.few_states; there = S.there; few = S.few; firsts_are = S.firsts_are }

pub ran-requires : goal.ran-requires
ran-requires c =
    (image_labelled c.args.image.now c.requires.0.accepted c.states_of.result (states_are (goal.at.ran-requires c).After-states_of) _ c.requires.1.edition_is, c.requires.2, c.requires.3)

pub returns : goal.returns
unfolding scan_of
returns c = c.ran.ensures
