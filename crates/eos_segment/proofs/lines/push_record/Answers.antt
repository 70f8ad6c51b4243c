use Rattle.std.proofs.Common.{to_z-of_z}
use Rattle.eos_segment.specs.Lines.{record_line}
use Rattle.eos_text.proofs.Appended.{then}
use Rattle.eos_segment.proofs.lines.push_record.Goals as goal

pub returns : goal.returns
unfolding record_line
returns c =
    let offset = simp (to_z-of_z, c.ranges.offset) at c.in_ok-push_value.ensures in
    let headers = simp c.as_slice.ensures at c.in_ok-push_value-2.ensures in
    then offset (then c.in_ok-push_hex.ensures (then c.in_ok-push_hex-2.ensures (then headers c.in_ok-push_text.ensures)))
