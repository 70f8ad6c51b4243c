use Rattle.eos_broker.proofs.KeptInOrder.{all_in_order}
use Rattle.eos_broker.proofs.laws.appends_in_order.Goals as goal

pub returns : goal.returns
returns c = all_in_order
