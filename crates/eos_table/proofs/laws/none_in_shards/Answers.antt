use Rattle.eos_table.proofs.ShardLaw.{none}
use Rattle.eos_table.proofs.laws.none_in_shards.Goals as goal

pub returns : goal.returns
returns c = none
