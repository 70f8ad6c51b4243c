use Rattle.eos_source_check.proofs.RisingTimes.{with_end}
use Rattle.eos_source_check.proofs.rising.Rising.between.Goals as goal

pub returns-in-Some : goal.returns-in-Some
returns-in-Some c = with_end _ _ _ _ _ _ c.in-Some.is c.below.ensures c.from-in-Some.ensures
