use Rattle.eos_source_check.proofs.FirstOfAll.{one_list}
use Rattle.eos_source_check.proofs.list_laws.one_list.Goals as goal

pub returns : goal.returns
returns c = λ e ls of faults others all other. one_list e ls of faults others all other
