use Rattle.std.proofs.Common.{map, option_map}
use Rattle.eos_verdict.specs.declared.verdict.Fault.TheVariants.{Lineage}
use Rattle.eos_faults.specs.steps.Taken.{named_in}
use Rattle.eos_faults.proofs.by_source.hand_on.Given as goal

abbrev pub invariant-loop-fault : goal.invariant-loop-fault
invariant-loop-fault g l = g.S.FaultSink.takes l.fn.sink (map Lineage (map (named_in (option_map (λ r. r.now) l.group)) l.yielded)) l.sink
