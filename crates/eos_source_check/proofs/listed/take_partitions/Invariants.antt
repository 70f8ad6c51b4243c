use Rattle.std.proofs.Common.{map}
use Rattle.eos_verdict.specs.declared.verdict.Fault.TheVariants.{Partition as InPartition}
use Rattle.eos_source_check.proofs.listed.take_partitions.Given as goal

abbrev pub invariant-loop-fault : goal.invariant-loop-fault
invariant-loop-fault g l = g.T.FaultSink.takes l.fn.sink (map InPartition l.yielded) l.sink
