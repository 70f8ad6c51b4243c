use Rattle.eos_source_check.proofs.RisingTimes.{rising}
use Rattle.eos_source_check.proofs.rising.Rising.of.Goals as goal

pub invariant_of-result : goal.invariant_of-result
invariant_of-result c = rising c.as_slice.result.now c.as_slice.ensures.sorted
