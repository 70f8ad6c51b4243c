use Rattle.std.proofs.Common.{◌≤◌, ◌+◌, ◌-◌, List, length}
use Rattle.eos_claims.specs.declared.fault.OutputFault.{OutputFault}
use Rattle.eos_claims.specs.Outputs.{Application}
use Rattle.eos_faults.specs.steps.BySource.{ArePassed, AreTold}
use Rattle.eos_faults.specs.steps.Tables.{AreTables}
use Rattle.eos_faults.specs.steps.Taken.{group_in, named_faults}
use Rattle.eos_faults.proofs.by_source.faults_by_source.Given as goal

abbrev pub invariant-loop-source : goal.invariant-loop-source
invariant-loop-source g l =
    (l.claim ≤ length l.claims) × (l.input ≤ length l.inputs) × ArePassed l.claims l.inputs l.claim l.input
    × (list : List OutputFault) × g.S.FaultSink.takes l.fn.sink (named_faults (group_in l.tables.books.now) list) l.sink
    × ((a : Application) → AreTables a l.tables → AreTold a l.claims l.inputs l.claim l.input list)

abbrev pub decreases-loop-source : goal.decreases-loop-source
decreases-loop-source g l = (length l.claims - l.claim) + (length l.inputs - l.input)
