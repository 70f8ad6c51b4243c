use Rattle.eos_text.specs.Adding.{Adds}
use Rattle.eos_verdict.specs.LogNames.{id_of}
use Rattle.eos_text.proofs.Appended.{then}
use Rattle.eos_verdict.specs.FaultTexts.{id_text, log_details}
use Rattle.eos_verdict.proofs.fault_text.push_log_details.Goals as goal

pub returns : goal.returns
unfolding log_details
returns c =
    let id : Adds _ _ (id_text (id_of c.args.kind.now)) = rw c.id.ensures at c.in_ok-push_id.ensures in
    then id c.in_ok-push_refusal.ensures
