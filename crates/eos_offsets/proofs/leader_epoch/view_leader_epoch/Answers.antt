use Rattle.eos_offsets.proofs.LeaderEpochTexts.{is_of_text}
use Rattle.eos_offsets.proofs.leader_epoch.view_leader_epoch.Goals as goal

pub returns-clause-text : goal.returns-clause-text
returns-clause-text c = is_of_text c.args.bytes.now
