use Rattle.eos_source_check.proofs.FirstOfAll.{first_of_all}
use Rattle.eos_source_check.proofs.list_laws.first_fault.Goals as goal

pub returns : goal.returns
returns c = λ e ls of first others all. first_of_all e ls of first others all
