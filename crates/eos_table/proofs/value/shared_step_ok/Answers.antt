use Rattle.std.proofs.Common.{◌∙◌}
use Rattle.eos_table.proofs.SharedValues.{step_without}
use Rattle.eos_table.proofs.value.shared_step_ok.Goals as goal

pub returns : goal.returns
returns c = c.step_ok.ensures ∙ step_without _ _ _ _ c.fields_of.ensures c.fields_of-2.ensures
