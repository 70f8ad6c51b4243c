use Rattle.std.proofs.Common.{List, map, take}
use Rattle.eos_commits.specs.Faults.{AreInOrder}
use Rattle.eos_verdict.specs.declared.lineage_fault.LineageFault.{LineageFault}
use Rattle.eos_verdict.specs.declared.verdict.Fault.TheVariants.{Lineage}
use Rattle.eos_faults.specs.steps.Taken.{AreTaken}
use Rattle.eos_faults.proofs.every.output_faults.Given as goal

abbrev pub invariant-loop-app : goal.invariant-loop-app
invariant-loop-app g l =
    (list : List LineageFault) × g.S.FaultSink.takes l.fn.sink (map Lineage list) l.sink × (AreInOrder l.parts → AreTaken l.apps l.parts (take l.app-index l.apps) list)
