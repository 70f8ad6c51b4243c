use Rattle.std.proofs.Common.{◌∙◌, ◌++◌, ◌∷◌, [], refl, sym, ap}
use Rattle.eos_verdict.specs.declared.lineage_fault.LineageFault.{LineageFault}
use Rattle.eos_verdict.specs.declared.verdict.Fault.TheVariants.{Lineage}
use Rattle.eos_verdict.specs.declared.verdict.Verdict.TheVariants.{No}
use Rattle.eos_explaining.proofs.LastCalls.{each}
use Rattle.eos_explaining.proofs.PickedFaults.{picked_held, picked_past}
use Rattle.eos_explaining.proofs.kinds.PickedFaultSink.take_output.Goals as goal

pub returns-then-is_asked : goal.returns-then-is_asked
returns-then-is_asked c =
    let fault = Lineage c.args.fault.now in
    let held = c.in_ok-push.ensures.items ∙ ap (λ (f : LineageFault). c.args.self.now.told.items ++ No (Lineage f) ∷ []) c.in_ok-fault.ensures in
    each _ _ _ c.take.result (λ counted. picked_held c.args.self.now _ fault refl (sym c.is_asked.ensures ∙ c.if-is_asked.true) counted held)
    (λ told are. c.take.ensures told fault (c.kind_of_output-output.ensures c.args.fault.now c.kind.ensures) are)

pub returns : goal.returns
returns c =
    let fault = Lineage c.args.fault.now in
    each _ _ _ c.take-2.result (λ counted. picked_past c.args.self.now _ fault refl (sym c.is_asked.ensures ∙ c.if-is_asked.false) counted refl)
    (λ told are. c.take-2.ensures told fault (c.kind_of_output-output.ensures c.args.fault.now c.kind.ensures) are)
