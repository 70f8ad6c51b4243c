use Rattle.std.proofs.Common.{◌∙◌, sym}
use Rattle.eos_txnlog.proofs.SameLists.{same_lists}
use Rattle.eos_txnlog.proofs.partition_sets.are_alike.Goals as goal

pub returns : goal.returns
returns c = λ t. (same_lists c.args.a.now c.args.b.now).0 (sym c.eq.ensures ∙ t)
