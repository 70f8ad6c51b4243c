use Rattle.std.proofs.Common.{◌∷◌, [], List, map, option_map, sym, subst}
use Rattle.std.proofs.lemmas.List.{map-append}
use Rattle.eos_verdict.specs.declared.lineage_fault.LineageFault.{LineageFault}
use Rattle.eos_verdict.specs.declared.verdict.Fault.TheVariants.{Lineage}
use Rattle.eos_faults.specs.steps.Taken.{named_in}
use Rattle.eos_faults.proofs.SinksTaken.{taken_more}
use Rattle.eos_faults.proofs.by_source.hand_on.Goals as goal

pub loop-fault-init : goal.loop-fault-init
loop-fault-init g c = g.met.S.FaultSink.takes_none c.args.sink.now

pub loop-fault-preserved : goal.loop-fault-preserved
loop-fault-preserved g c =
    let name = named_in (option_map (λ r. r.now) c.args.group) in
    let takes = g.S.FaultSink.takes in
    let before = c.loop-fault.yielded in
    let fault = c.in-Some.fault in
    let step = subst (λ f. takes c.loop-fault.sink (Lineage f ∷ []) c.take_output.new.self) c.new-output.ensures c.in_ok-take_output.ensures in
    subst (λ (fs : List LineageFault). takes c.args.sink.now (map Lineage fs) c.take_output.new.self) (sym (map-append name before (fault ∷ [])))
    (taken_more takes g.met.S.FaultSink.takes_both Lineage (map name before) (name fault) c.args.sink.now c.loop-fault.sink c.take_output.new.self c.loop-fault.invariant step)
