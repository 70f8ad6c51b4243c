use Rattle.eos_check.proofs.NamedFaults.{fault_of, first_named}
use Rattle.eos_check.proofs.kept_laws.named.Goals as goal

pub returns-clause-log : goal.returns-clause-log
returns-clause-log c = fault_of

pub returns-clause-first : goal.returns-clause-first
returns-clause-first c = first_named
