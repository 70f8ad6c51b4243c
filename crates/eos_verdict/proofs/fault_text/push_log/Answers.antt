use Rattle.std.proofs.Common.{codes}
use Rattle.eos_text.specs.Adding.{Adds}
use Rattle.eos_verdict.specs.FaultTexts.{log_text, offset_text}
use Rattle.eos_text.proofs.Appended.{then}
use Rattle.eos_verdict.proofs.fault_text.push_log.Goals as goal

pub returns : goal.returns
unfolding log_text
returns c =
    let place : Adds _ _ (offset_text (codes "__transaction_state") c.args.fault.now.partition c.args.fault.now.offset) = rw c.as_bytes.ensures.value at c.in_ok-push_offset.ensures in
    then place c.in_ok-push_log_details.ensures
