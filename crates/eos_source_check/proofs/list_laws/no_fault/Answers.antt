use Rattle.eos_source_check.proofs.FirstOfAll.{none_of_all}
use Rattle.eos_source_check.proofs.list_laws.no_fault.Goals as goal

pub returns : goal.returns
returns c = λ e ls of all. none_of_all e ls of all
