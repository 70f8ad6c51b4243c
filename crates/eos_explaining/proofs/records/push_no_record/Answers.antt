use Rattle.eos_explaining.specs.Records.{no_record_line}
use Rattle.eos_explaining.proofs.LastCalls.{last}
use Rattle.eos_explaining.proofs.records.push_no_record.Goals as goal

pub returns : goal.returns
unfolding no_record_line
returns c =
    let role = rw c.role_of.ensures at c.in_ok-push_text.ensures in
    last _ _ _ role (last _ _ _ c.in_ok-push_absent.ensures c.push_text-2.ensures)
