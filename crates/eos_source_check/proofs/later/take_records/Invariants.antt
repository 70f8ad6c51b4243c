use Rattle.std.proofs.Common.{map}
use Rattle.eos_verdict.specs.declared.lineage_fault.LineageFault.TheVariants.{Record}
use Rattle.eos_verdict.specs.declared.verdict.Fault.TheVariants.{Lineage}
use Rattle.eos_source_check.proofs.later.take_records.Given as goal

abbrev pub invariant-loop-fault : goal.invariant-loop-fault
invariant-loop-fault g l = g.S.FaultSink.takes l.fn.sink (map Lineage (map Record l.yielded)) l.sink
