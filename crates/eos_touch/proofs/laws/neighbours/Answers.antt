use Rattle.eos_touch.proofs.NeighboursLaw.{law, ordered_law}
use Rattle.eos_touch.proofs.laws.neighbours.Goals as goal

pub returns-clause-decided : goal.returns-clause-decided
returns-clause-decided c = law c.args.sequenced c.args.touches.now c.requires

pub returns-clause-ordered : goal.returns-clause-ordered
returns-clause-ordered c = ordered_law c.args.sequenced c.args.touches.now c.requires
