use Rattle.eos_source_check.proofs.LaterAlike.{whole_later, kept_later}
use Rattle.eos_source_check.proofs.list_laws.later.Goals as goal

pub returns-clause-whole : goal.returns-clause-whole
returns-clause-whole c = λ e ls of none faults. whole_later e ls of none faults

pub returns-clause-kept : goal.returns-clause-kept
returns-clause-kept c = λ e ls of none faults. kept_later e ls of none faults
