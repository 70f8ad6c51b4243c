use Rattle.eos_segment.proofs.FedSteps.{fed_none}
use Rattle.eos_segment.proofs.fed.FedWalk.new.Goals as goal

pub returns : goal.returns
returns c = fed_none c.new.result c.new.ensures
