use Rattle.eos_explaining.specs.Records.{record_line}
use Rattle.eos_explaining.proofs.LastCalls.{last}
use Rattle.eos_explaining.proofs.records.push_record.Goals as goal

pub returns : goal.returns
unfolding record_line
returns c =
    let at = rw (c.mark-label.ensures, c.is_there-is_fault.ensures, c.role_of.ensures) at c.in_ok-push_at.ensures in
    let said = rw (c.reading_of-reading.ensures, c.as_slice.ensures) at c.push_said.ensures in
    last _ _ _ at (last _ _ _ c.in_ok-push_spot.ensures (last _ _ _ c.in_ok-push_writer.ensures (last _ _ _ c.in_ok-push_fate.ensures said)))
