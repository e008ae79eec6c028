-- The image's parts are found by its counts, and the bytes of the payload are counted.
use Rattle.image.proofs.Accepted.{accepted_laid}
use Rattle.counting.proofs.Counting.{zeros}
use Rattle.serving.proofs.columns_of.Goals as goal

pub begins_of-begins-requires : goal.begins_of-begins-requires
begins_of-begins-requires c =
    let A = c.requires.0 in
    (accepted_laid c.args.v.now.bytes.now A.image_is, A.states_are, A.entries_are)

pub count_bytes-requires : goal.count_bytes-requires
count_bytes-requires c =
    let A = c.requires.0 in
    (record { accepted = A.image_is; begin = c.begins_of-begins.ensures; records_is = c.records_at-records.ensures; classes_is = A.classes_are }, c.requires.1, zeros, zeros)

pub returns : goal.returns
returns c =
    (c.requires.0.states_are, c.count_bytes.ensures.0, c.count_bytes.ensures.1)
