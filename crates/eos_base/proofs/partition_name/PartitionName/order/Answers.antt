use Rattle.std.proofs.Common.{◌∙◌, sym}
use Rattle.eos_base.proofs.NamesInOrder.{name_exact}
use Rattle.eos_base.proofs.partition_name.PartitionName.order.Goals as goal

pub returns-clause-exact : goal.returns-clause-exact
returns-clause-exact c tied = name_exact _ _ (sym c.cmp.ensures ∙ tied)
