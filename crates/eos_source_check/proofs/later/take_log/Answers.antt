use Rattle.eos_verdict.specs.declared.verdict.Fault.TheVariants.{Log}
use Rattle.eos_faults.proofs.SinksTaken.{taken_more}
use Rattle.eos_source_check.proofs.later.take_log.Goals as goal

pub loop-fault-init : goal.loop-fault-init
loop-fault-init g c = g.met.S.FaultSink.takes_none c.args.sink.now

pub loop-fault-preserved : goal.loop-fault-preserved
loop-fault-preserved g c =
    taken_more g.S.FaultSink.takes g.met.S.FaultSink.takes_both Log c.loop-fault.yielded c.in-Some.fault c.args.sink.now c.loop-fault.sink c.take.new.self c.loop-fault.invariant c.in_ok-take.ensures
