use Rattle.std.proofs.Common.{◌∷◌, [], List, map, sym, subst}
use Rattle.std.proofs.lemmas.List.{map-append}
use Rattle.eos_verdict.specs.declared.lineage_fault.LineageFault.{LineageFault}
use Rattle.eos_verdict.specs.declared.lineage_fault.LineageFault.TheVariants.{Record}
use Rattle.eos_verdict.specs.declared.verdict.Fault.TheVariants.{Lineage}
use Rattle.eos_faults.proofs.SinksTaken.{taken_more}
use Rattle.eos_source_check.proofs.later.take_records.Goals as goal

pub loop-fault-init : goal.loop-fault-init
loop-fault-init g c = g.met.S.FaultSink.takes_none c.args.sink.now

pub loop-fault-preserved : goal.loop-fault-preserved
loop-fault-preserved g c =
    let before = c.loop-fault.yielded in
    let fault = c.in-Some.fault in
    let takes = g.S.FaultSink.takes in
    subst (λ (fs : List LineageFault). takes c.args.sink.now (map Lineage fs) c.take.new.self) (sym (map-append Record before (fault ∷ [])))
    (taken_more takes g.met.S.FaultSink.takes_both Lineage (map Record before) (Record fault) c.args.sink.now c.loop-fault.sink c.take.new.self c.loop-fault.invariant c.in_ok-take.ensures)
