-- In edition 2 the labels are tested list by list.
use Rattle.std.proofs.Common.{◌∙◌}
use Rattle.paper.specs.Labels.{labels_behind}
use Rattle.labels.proofs.Lists.{lists_labels}
use Rattle.labels.proofs.Labels.labels_bad.Goals as goal

pub lists_bad-requires : goal.lists_bad-requires
unfolding labels_behind
lists_bad-requires c = rw c.in-Two.is at c.requires

pub returns-in-Two : goal.returns-in-Two
returns-in-Two c =
    let a = c.args.self.now in
    rw c.in-Two.is (c.lists_bad.ensures ∙ lists_labels a.bytes.now a.at a.n)
