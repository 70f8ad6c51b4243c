use Rattle.eos_reading.proofs.MarkerHeads.{head_is}
use Rattle.eos_reading.proofs.head.marker_head.Goals as goal

pub returns : goal.returns
returns c =
    head_is c.args.bytes.now c.args.at c.args.opened.now c.in-Some.only c.in-Some-end_marker.marker c.head_with.result c.requires.opened c.in-Some.ensures c.in-Some-end_marker.ensures.tested c.in-Some-end_marker.ensures.marker c.head_with.ensures
