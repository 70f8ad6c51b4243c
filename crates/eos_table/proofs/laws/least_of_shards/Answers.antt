use Rattle.eos_table.proofs.ShardLaw.{least}
use Rattle.eos_table.proofs.laws.least_of_shards.Goals as goal

pub returns : goal.returns
returns c = least
