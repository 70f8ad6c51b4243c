use Rattle.eos_history_lines.proofs.ReadBack.{head_alone}
use Rattle.eos_history_lines.proofs.laws.heads_apart.Goals as goal

pub returns : goal.returns
returns c = head_alone
