use Rattle.std.proofs.Common.{map}
use Rattle.eos_verdict.specs.declared.verdict.Fault.TheVariants.{Log}
use Rattle.eos_source_check.proofs.later.take_log.Given as goal

abbrev pub invariant-loop-fault : goal.invariant-loop-fault
invariant-loop-fault g l = g.S.FaultSink.takes l.fn.sink (map Log l.yielded) l.sink
