use Rattle.eos_history_lines.proofs.ReadBack.{row_alone}
use Rattle.eos_history_lines.proofs.laws.rows_apart.Goals as goal

pub returns : goal.returns
returns c = row_alone
