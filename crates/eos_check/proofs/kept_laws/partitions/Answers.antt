use Rattle.eos_check.proofs.NamedFaults.{least_named}
use Rattle.eos_check.proofs.kept_laws.partitions.Goals as goal

pub returns : goal.returns
returns c = least_named
