use Rattle.std.proofs.Common.{◌∙◌}
use Rattle.eos_commits.proofs.RoleSearch.{topic_has}
use Rattle.eos_commits.proofs.roles.is_topic_in.Goals as goal

pub returns : goal.returns
returns c = c.holds.ensures ∙ topic_has c.args.keys.now c.args.key.now
