use Rattle.std.proofs.Common.{take}
use Rattle.eos_commits.specs.Faults.{AreInOrder}
use Rattle.eos_lineage.proofs.FirstFault.{PassedSoFar}
use Rattle.eos_lineage.proofs.check.check_each.Given as goal

abbrev pub invariant-loop-app : goal.invariant-loop-app
invariant-loop-app g l = AreInOrder l.logs → PassedSoFar (take l.app-index l.apps) l.logs l.inputs l.outputs
